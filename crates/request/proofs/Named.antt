-- A refusal and its number and place are one thing, and each row that refuses names a refusal. Assumes nothing.
use Prim.Native.Nat.{ℕ, zero, suc, ◌+◌}
use mathlib.Core.Path.{◌≡◌, refl, sym, ap, ◌∙◌, subst}
use mathlib.Core.List.{List, [], ◌∷◌, ◌++◌}
use lib.ListN.{length}
use lib.Dec.{T, ltb}
use Rattle.words.specs.Rows.{Row, Weighed, clear, refused, weigh, each}
use Rattle.words.specs.Loops.{up_to}
use Rattle.words.specs.Pieces.{at}
use Rattle.words.proofs.Rows.{either, refused-not-clear, weigh-none, weigh-held, weigh-passed, weigh-append, weigh-front}
use Rattle.request.specs.declared.Refusal.{Refusal}
use Rattle.request.specs.declared.Refusal.TheVariants.{Form, Nodes, Criteria, Source, Hops, Ratio, ArcWords, Arc, Loop, Buckets, Labels, Digits, Bytes, Room, Place, Chain}
use Rattle.request.specs.Refusal.{number_of, place_of, refusal_of, Named}
use Rattle.request.specs.Request.{Req, width, arc_count}
use Rattle.request.specs.Rows.{size_rows, ratio_row, arc_words_row, arc_fault, arc_row, bucket_row, label_row, ask_rows, arc_rows, shape_rows, rows}
use Rattle.request.proofs.Branches.{fault-cases}

-- ---- a refusal's number and place

-- they choose it back
pub refusal-of : (r : Refusal) → refusal_of (number_of r) (place_of r) ≡ r
unfolding refusal_of
refusal-of (Form p) = refl
refusal-of Nodes = refl
refusal-of Criteria = refl
refusal-of Source = refl
refusal-of Hops = refl
refusal-of (Ratio p) = refl
refusal-of ArcWords = refl
refusal-of (Arc p) = refl
refusal-of (Loop p) = refl
refusal-of (Buckets p) = refl
refusal-of Labels = refl
refusal-of Digits = refl
refusal-of Bytes = refl
refusal-of (Room p) = refl
refusal-of Place = refl
refusal-of (Chain p) = refl

-- and name a refusal
pub named-of : (r : Refusal) → Named (number_of r) (place_of r)
unfolding Named
named-of r = (ap number_of (refusal-of r), ap place_of (refusal-of r))

-- the refusal of a number and a place says these
pub named-says : (n p : ℕ) → Named n p → refused (number_of (refusal_of n p)) (place_of (refusal_of n p)) ≡ refused n p
unfolding Named
named-says n p h = ap (λ (z : ℕ). refused z (place_of (refusal_of n p))) h.0 ∙ ap (refused n) h.1

-- ---- tables

-- whatever the table refuses with names a refusal
unfoldable pub NamedRows : List Row → Type 0
NamedRows rs = (n p : ℕ) → weigh rs ≡ refused n p → Named n p

-- no row
pub named-none : NamedRows []
unfolding NamedRows
named-none n p e = absurd (refused-not-clear n p (sym e ∙ weigh-none))

-- a row before others
pub named-row : (r : Row) (rs : List Row) → (T r.holds → Named r.number r.place) → NamedRows rs → NamedRows (r ∷ rs)
unfolding NamedRows
named-row r rs h hs n p e =
    either (Named n p) r.holds
    (λ t. same (h t) (sym (weigh-held r rs t) ∙ e))
    (λ t. hs n p (sym (weigh-passed r rs t) ∙ e))
  where
    same : Named r.number r.place → refused r.number r.place ≡ refused n p → Named n p
    same k q =
        let a : r.number ≡ n = cc in
        let b : r.place ≡ p = cc in
        subst (λ (z : ℕ). Named n z) b (subst (λ (z : ℕ). Named z r.place) a k)

-- one table before another
pub named-++ : (xs ys : List Row) → NamedRows xs → NamedRows ys → NamedRows (xs ++ ys)
unfolding NamedRows
named-++ xs ys hx hy n p e = go (weigh xs) refl
  where
    go : (w : Weighed) → weigh xs ≡ w → Named n p
    go clear q = hy n p (sym (weigh-append xs ys q) ∙ e)
    go (refused m k) q =
        let f : refused m k ≡ refused n p = sym (weigh-front xs ys m k q) ∙ e in
        hx n p (q ∙ f)

-- a row for each number
pub named-each : (f : ℕ → Row) (n : ℕ) → ((k : ℕ) → T (f k).holds → Named (f k).number (f k).place) → NamedRows (each f n)
unfolding each up_to
named-each f zero h = named-none
named-each f (suc n) h = named-++ (each f n) (f n ∷ []) (named-each f n h) (named-row (f n) [] (h n) named-none)

-- ---- the rows of a request

-- an arc's fault
pub fault-named : (n d : ℕ) (w : List ℕ) (a : ℕ) → T (ltb 0 (arc_fault n d w)) → Named (arc_fault n d w) a
fault-named n d w a = fault-cases (λ f. T (ltb 0 f) → Named f a) n d w (λ _. named-of (Arc a)) (λ _. named-of (Loop a)) (λ t. absurd t)

module _ (R : Req) where
  sizes-named : NamedRows (size_rows R.nodes R.criteria R.source R.hops)
  unfolding size_rows
  sizes-named =
      named-row _ _ (λ _. named-of Nodes)
      (named-row _ _ (λ _. named-of Criteria)
      (named-row _ _ (λ _. named-of Source)
      (named-row _ _ (λ _. named-of Hops) named-none)))

  asks-named : NamedRows (ask_rows R)
  unfolding ask_rows ratio_row
  asks-named = named-++ _ _ sizes-named (named-each (ratio_row R.ratios) R.graded (λ j _. named-of (Ratio (j + 1))))

  arcs-named : NamedRows (arc_rows R)
  unfolding arc_rows arc_words_row arc_row
  arcs-named =
      named-row (arc_words_row (length R.arcs) (width R)) _ (λ _. named-of ArcWords)
      (named-each (arc_row R.nodes R.criteria R.arcs) (arc_count R) (λ a t. fault-named R.nodes R.criteria (at (R.criteria + 2) R.arcs a) a t))

  shapes-named : NamedRows (shape_rows R)
  unfolding shape_rows bucket_row label_row
  shapes-named =
      named-++ _ _ (named-each (bucket_row R) R.graded (λ j _. named-of (Buckets (j + 1))))
      (named-row (label_row R) [] (λ _. named-of Labels) named-none)

  -- WHAT A REQUEST IS REFUSED WITH IS A REFUSAL'S NUMBER AND PLACE
  pub named-rows : NamedRows (rows R)
  unfolding rows
  named-rows = named-++ _ _ (named-++ _ _ asks-named arcs-named) shapes-named

  pub rows-named : (n p : ℕ) → weigh (rows R) ≡ refused n p → Named n p
  unfolding NamedRows
  rows-named n p e = named-rows n p e
