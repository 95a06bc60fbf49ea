-- An answer's numbers tell the answer, two answers that the promise allows are the same, and what is listed is a walk. Assumes nothing.
use Prim.Native.Nat.{ℕ, ◌<◌}
use mathlib.Core.Path.{◌≡◌, sym, ap, ap₂, ◌∙◌, subst}
use mathlib.Core.List.{List}
use native.Mathlib.Nat.{le_refl}
use native.Mathlib.Omega.{arith}
use lib.ListN.{length}
use lib.Dec.{T}
use Rattle.std.specs.Prelude.{Result, Ok, Err}
use Rattle.request.specs.declared.Request.{Request}
use Rattle.request.specs.Request.{Req, asked}
use Rattle.request.specs.Shape.{cells}
use Rattle.request.specs.Accepted.{Accepted}
use Rattle.request.specs.declared.Refusal.{Refusal}
use Rattle.request.specs.Refusal.{number_of, place_of, refusal_of}
use Rattle.request.proofs.Accepted.{accepted-regular}
use Rattle.request.proofs.Named.{refusal-of}
use Rattle.rounds.specs.Label.{costs, filled}
use Rattle.rounds.specs.Rounds.{table}
use Rattle.route.specs.Answer.{arcs_of}
use Rattle.route.specs.Walked.{Walked, Sound}
use Rattle.route.proofs.Sound.{chain-sound}
use Rattle.route.proofs.Tables.{table-whole}
use Rattle.listing.specs.Listing.{last_label, last_route}
use Rattle.listing.specs.List.{said, listed_of, listing_after}
use Rattle.listing.proofs.Suffices.{front, last-is}

-- ---- one to one

-- two answers that say the same are the same
pub said-once : (a b : Result ℕ Refusal) → said a ≡ said b → a ≡ b
said-once (Ok m) (Ok n) e = let q : m ≡ n = cc in ap Ok q
said-once (Ok m) (Err r) e = absurd (omega (arith, ap (length {A = ℕ}) e))
said-once (Err r) (Ok n) e = absurd (omega (arith, ap (length {A = ℕ}) e))
said-once (Err q) (Err r) e =
    let n : number_of q ≡ number_of r = cc in
    let p : place_of q ≡ place_of r = cc in
    ap Err (sym (refusal-of q) ∙ ap₂ refusal_of n p ∙ refusal-of r)

-- two answers that the promise of `list` allows are the same, and so are the bytes
pub lists-once : (s bytes : List ℕ) (a b : Result ℕ Refusal) (x y : List ℕ) → a ≡ listed_of s (length bytes) → b ≡ listed_of s (length bytes) → x ≡ listing_after s bytes → y ≡ listing_after s bytes
    → (a ≡ b) × (x ≡ y)
lists-once s bytes a b x y e f g h = (e ∙ sym f, g ∙ sym h)

-- ---- what is listed

module _ (q : Request) (arcs : List ℕ) (ok : Accepted (asked q arcs)) (v c : ℕ) (hv : v < q.nodes) (hc : c < cells (asked q arcs)) where
  abbrev R : Req
  R = asked q arcs

  abbrev W : List ℕ
  W = table (asked q arcs)

  -- THE ROUTE OF EVERY LABEL THAT IS LISTED is a walk from the source to its node, of at most K arcs, and its costs are the walk's sums
  pub listed-walk : T (filled (asked q arcs) (last_label (asked q arcs) (table (asked q arcs)) v c))
      → Walked (asked q arcs) (last_route (asked q arcs) (table (asked q arcs)) v c) q.hops v (costs (asked q arcs) (last_label (asked q arcs) (table (asked q arcs)) v c))
  unfolding last_route last_label
  listed-walk t =
      let w = table-whole R (accepted-regular R ok) W (front q arcs ok) q.hops v c (le_refl q.hops) hv hc (subst (λ (l : List ℕ). T (filled R l)) (last-is q arcs ok v c hv hc) t) in
      subst (λ (ws : List ℕ). Walked R ws q.hops v (costs R (last_label R W v c))) (sym (ap arcs_of w)) (subst (Sound R W q.hops v c) w (chain-sound R W q.hops v c)).1
