-- The line of a label: where it is filled and where it is empty, as it is measured, and how many numbers it has. Assumes nothing.
use Prim.Native.Nat.{ℕ, ◌≤◌, ◌<◌}
use mathlib.Core.Path.{◌≡◌, refl, sym, ap, ◌∙◌}
use mathlib.Core.Bool.{Bool, true, false}
use mathlib.Core.List.{List, [], ◌∷◌}
use native.Mathlib.Omega.{arith}
use lib.ListN.{length, length-append}
use Rattle.std.specs.Prelude.{None, Some}
use Rattle.text.specs.Line.{line_text}
use Rattle.request.specs.declared.Request.{Request}
use Rattle.request.specs.Request.{Req, asked}
use Rattle.sheet.specs.Grammar.{tab}
use Rattle.rounds.specs.Label.{costs, filled}
use Rattle.route.specs.Chain.{chain}
use Rattle.route.specs.Answer.{arcs_of}
use Rattle.route.proofs.Sound.{chain-short}
use Rattle.listing.specs.Print.{measured}
use Rattle.listing.proofs.Places.{Tabled, costs-long}
use Rattle.listing.specs.Listing.{label_word, last_label, last_route, filled_at, label_numbers, label_line}

module _ (R : Req) (W : List ℕ) (v c : ℕ) where
  -- an empty label counts for nothing, has no line, and none is measured
  pub empty-label : filled R (last_label R W v c) ≡ false → (0 ≡ filled_at R W v c) × ([] ≡ label_line R W v c) × (None ≡ measured R W v c)
  unfolding filled_at label_line measured
  empty-label e = (rw e refl, rw e refl, rw e refl)

  -- a filled one counts for one, its line is its numbers', and its length is measured
  pub filled-label : filled R (last_label R W v c) ≡ true
      → (1 ≡ filled_at R W v c) × (line_text tab label_word (label_numbers R W v c) ≡ label_line R W v c) × (Some (length (label_line R W v c)) ≡ measured R W v c)
  unfolding filled_at label_line measured
  filled-label e = (rw e refl, rw e refl, rw e refl)

  -- a label of which no line was measured
  pub measured-none : None ≡ measured R W v c → (0 ≡ filled_at R W v c) × (0 ≡ length (label_line R W v c))
  measured-none e = go (filled R (last_label R W v c)) refl
    where
      go : (b : Bool) → filled R (last_label R W v c) ≡ b → (0 ≡ filled_at R W v c) × (0 ≡ length (label_line R W v c))
      go true f = let g : None ≡ Some (length (label_line R W v c)) = e ∙ sym (filled-label f).2 in let z : ◌≡◌ {A = ℕ} 0 1 = cc in absurd (omega arith)
      go false f = ((empty-label f).0, ap (length {A = ℕ}) (empty-label f).1)

  -- and one whose line was
  pub measured-some : (n : ℕ) → Some n ≡ measured R W v c → (1 ≡ filled_at R W v c) × (n ≡ length (label_line R W v c))
  measured-some n e = go (filled R (last_label R W v c)) refl
    where
      go : (b : Bool) → filled R (last_label R W v c) ≡ b → (1 ≡ filled_at R W v c) × (n ≡ length (label_line R W v c))
      go true f = let g : Some n ≡ Some (length (label_line R W v c)) = e ∙ sym (filled-label f).2 in ((filled-label f).0, (cc))
      go false f = let g : Some n ≡ None = e ∙ sym (empty-label f).2 in let z : ◌≡◌ {A = ℕ} 0 1 = cc in absurd (omega arith)

-- a label has at most 68 numbers: the node, three costs, the arc count and 63 arcs
module _ (q : Request) (arcs W : List ℕ) (C : ℕ) (ok : Tabled (asked q arcs) W C) (v c : ℕ) (hv : v < q.nodes) (hc : c < C) where
  -- the costs are d, and the arcs at most K
  pub few-numbers : length (label_numbers (asked q arcs) W v c) ≤ 68
  unfolding label_numbers last_route
  few-numbers =
      let R = asked q arcs in
      let ws = arcs_of (chain R W q.hops v c) in
      omega (arith, length-append (costs R (last_label R W v c)) (length ws ∷ ws), costs-long q arcs W C ok v c hv hc, chain-short R W q.hops v c, ok.small.three, ok.small.hops_few)
