-- Walks from the front and from the end, their sums under the ladder tops, and labels that are walks'. Assumes nothing.
use Prim.Native.Nat.{ℕ, zero, suc, ◌+◌, ◌*◌, ◌≤◌, ◌<◌}
use mathlib.Core.Path.{◌≡◌, refl, sym, ap, ◌∙◌, subst}
use mathlib.Core.List.{List, [], ◌∷◌, ◌++◌, append_assoc, append-nil}
use native.Mathlib.Nat.{le_trans, mul-le-mul_right, suc-mul}
use native.Mathlib.Omega.{arith}
use lib.ListN.{length, get_or, replicate, length-append}
use Rattle.request.specs.Request.{Req, width, arc_count, tail, head, arc_costs, reach}
use Rattle.request.specs.Shape.{largest, top, cells, cell}
use Rattle.request.specs.Accepted.{Regular}
use Rattle.request.proofs.Tops.{arc-le}
use Rattle.request.proofs.Cells.{UnderTop, cell-lt}
use Rattle.rounds.specs.Label.{costs, sum, candidate, came}
use Rattle.rounds.proofs.Labels.{get_or-sum, zero-costs, came-costs}
use Rattle.cover.specs.Walk.{Walk, sums_from, sums}

-- ---- one arc more at the end

pub walk-snoc : (R : Req) (u : ℕ) (ws : List ℕ) (a : ℕ) → a < arc_count R → Walk R u ws (tail R a) → Walk R u (ws ++ a ∷ []) (head R a)
walk-snoc R u [] a l e = (l, sym e, refl)
walk-snoc R u (b ∷ ws) a l h = (h.0, h.1, walk-snoc R (head R b) ws a l h.2)

pub sums-snoc : (R : Req) (xs ws : List ℕ) (a : ℕ) → sums_from R xs (ws ++ a ∷ []) ≡ sum (sums_from R xs ws) (arc_costs R a)
unfolding sums_from
sums-snoc R xs [] a = refl
sums-snoc R xs (b ∷ ws) a = sums-snoc R (sum xs (arc_costs R b)) ws a

pub length-snoc : (ws : List ℕ) (a : ℕ) → length (ws ++ a ∷ []) ≡ suc (length ws)
length-snoc ws a = length-append ws (a ∷ []) ∙ omega arith

-- a walk's sums are at most its length times the largest arc costs
sums-le : (R : Req) (j u v : ℕ) (xs ws : List ℕ) → Walk R u ws v → get_or (sums_from R xs ws) j zero ≤ get_or xs j zero + length ws * largest R j
unfolding sums_from
sums-le R j u v xs [] h = omega arith
sums-le R j u v xs (a ∷ ws) h =
    omega (arith, sums-le R j (head R a) v (sum xs (arc_costs R a)) ws h.2, get_or-sum xs (arc_costs R a) j, arc-le R a h.0 j, suc-mul (length ws) (largest R j))

-- what holds of the empty walk, and of a walk with one more arc at its end, holds of every walk from the source
module _ {κ} (R : Req) (P : List ℕ → ℕ → Type κ)
    (more : (ws : List ℕ) (a : ℕ) → a < arc_count R → Walk R R.source ws (tail R a) → P ws (tail R a) → P (ws ++ a ∷ []) (head R a)) where
  along : (done : List ℕ) (u v : ℕ) (ws : List ℕ) → Walk R R.source done u → P done u → Walk R u ws v → P (done ++ ws) v
  along done u v [] d p e = subst (λ (z : ℕ). P (done ++ []) z) e (subst (λ (z : List ℕ). P z u) (sym (append-nil done)) p)
  along done u v (a ∷ ws) d p walk =
      let d' : Walk R R.source done (tail R a) = subst (λ (z : ℕ). Walk R R.source done z) (sym walk.1) d in
      subst (λ (z : List ℕ). P z v) (append_assoc done (a ∷ []) ws)
      (along (done ++ a ∷ []) (head R a) v ws (walk-snoc R R.source done a walk.0 d')
      (more done a walk.0 d' (subst (λ (z : ℕ). P done z) (sym walk.1) p)) walk.2)

  pub walk-ind : P [] R.source → (ws : List ℕ) (v : ℕ) → Walk R R.source ws v → P ws v
  walk-ind p ws v walk = along [] R.source v ws refl p walk

-- ---- a walk within the reach is under the ladder tops

under-sums : (R : Req) (ws : List ℕ) (v : ℕ) → Walk R R.source ws v → length ws ≤ reach R → UnderTop R (sums R ws)
unfolding sums UnderTop top
under-sums R ws v h l j _ =
    omega (arith, sums-le R j R.source v (replicate R.criteria 0) ws h, zero-costs R j, mul-le-mul_right (largest R j) l)

-- ---- a label that is a walk's

-- label l, in cell c of node v, is that of the walk ws of at most n arcs
pub record Rooted (R : Req) (ws : List ℕ) (n v c : ℕ) (l : List ℕ) : Type 0 where
  pub walk : Walk R R.source ws v
  pub short : length ws ≤ n
  pub exact : costs R l ≡ sums R ws
  pub own : cell R (costs R l) ≡ c

pub under-label : (R : Req) (ws : List ℕ) (n v c : ℕ) (l : List ℕ) → Rooted R ws n v c l → n ≤ reach R → UnderTop R (costs R l)
under-label R ws n v c l r h = subst (UnderTop R) (sym r.exact) (under-sums R ws v r.walk (le_trans r.short h))

-- and so is what a try by arc a makes of it
module _ (R : Req) (ok : Regular R) (ws : List ℕ) (n a f : ℕ) (l : List ℕ) (r : Rooted R ws n (tail R a) f l) (in-a : a < arc_count R) (size : length l ≡ width R) where
  pub cand-rooted : Rooted R (ws ++ a ∷ []) (suc n) (head R a) (cell R (candidate R a l)) (came R a f l)
  unfolding candidate sums
  cand-rooted =
      let e : costs R (came R a f l) ≡ candidate R a l = came-costs R ok a in-a l size f in
      record {
        walk = walk-snoc R R.source ws a in-a r.walk;
        short = omega (arith, length-snoc ws a, r.short);
        exact = e ∙ ap (λ (z : List ℕ). sum z (arc_costs R a)) r.exact ∙ sym (sums-snoc R (replicate R.criteria 0) ws a);
        own = ap (cell R) e;
      }

  pub under-cand : suc n ≤ reach R → UnderTop R (candidate R a l)
  under-cand h = subst (UnderTop R) (came-costs R ok a in-a l size f) (under-label R (ws ++ a ∷ []) (suc n) (head R a) (cell R (candidate R a l)) (came R a f l) cand-rooted h)

  pub cand-cell : suc n ≤ reach R → cell R (candidate R a l) < cells R
  cand-cell h = cell-lt R ok (candidate R a l) (under-cand h)
