-- Weighings one after another: the first that refuses decides, and one that is clear hands on. Assumes nothing.
use Prim.Native.Nat.{ℕ, ◌+◌, ◌-◌, ◌*◌, ◌/◌}
use mathlib.Core.Path.{◌≡◌, refl, sym, ap, ◌∙◌}
use mathlib.Core.List.{List, [], ◌∷◌, ◌++◌}
use lib.ListN.{length}
use Rattle.words.specs.Rows.{Row, Weighed, clear, refused, weigh, each}
use Rattle.words.proofs.Rows.{weigh-append, weigh-front}
use Rattle.request.specs.declared.Request.{Request}
use Rattle.request.specs.Request.{asked, arc_count, reach}
use Rattle.request.specs.Shape.{largest_of, largest, top}
use Rattle.request.specs.Rows.{size_rows, ratio_row, arc_words_row, arc_row, ask_rows, arc_rows}

-- rows 2 to 8 of a request, with 17
module _ (q : Request) (arcs : List ℕ) where
  abbrev S : List Row
  S = size_rows q.nodes q.criteria q.source q.hops

  abbrev Q : List Row
  Q = each (ratio_row q.ratios) (q.criteria - 1)

  abbrev W : List Row
  W = arc_words_row (length arcs) (q.criteria + 2) ∷ []

  abbrev A : List Row
  A = each (arc_row q.nodes q.criteria arcs) (length arcs / (q.criteria + 2))

  all-rows : ask_rows (asked q arcs) ++ arc_rows (asked q arcs) ≡ (S ++ Q) ++ (W ++ A)
  unfolding ask_rows arc_rows arc_count
  all-rows = refl

  module _ (n p : ℕ) where
    pub by-sizes : weigh S ≡ refused n p → weigh (ask_rows (asked q arcs) ++ arc_rows (asked q arcs)) ≡ refused n p
    by-sizes e = ap weigh all-rows ∙ weigh-front (S ++ Q) (W ++ A) n p (weigh-front S Q n p e)

    pub by-ratios : weigh S ≡ clear → weigh Q ≡ refused n p → weigh (ask_rows (asked q arcs) ++ arc_rows (asked q arcs)) ≡ refused n p
    by-ratios c e = ap weigh all-rows ∙ weigh-front (S ++ Q) (W ++ A) n p (weigh-append S Q c ∙ e)

    pub by-words : weigh S ≡ clear → weigh Q ≡ clear → weigh W ≡ refused n p → weigh (ask_rows (asked q arcs) ++ arc_rows (asked q arcs)) ≡ refused n p
    by-words c d e = ap weigh all-rows ∙ weigh-append (S ++ Q) (W ++ A) (weigh-append S Q c ∙ d) ∙ weigh-front W A n p e

  pub by-arcs : (w : Weighed) → weigh S ≡ clear → weigh Q ≡ clear → weigh W ≡ clear → w ≡ weigh A → w ≡ weigh (ask_rows (asked q arcs) ++ arc_rows (asked q arcs))
  by-arcs w c d f s = s ∙ sym (weigh-append W A f) ∙ sym (weigh-append (S ++ Q) (W ++ A) (weigh-append S Q c ∙ d)) ∙ ap weigh (sym all-rows)

  -- the ladder top, as the code works it out
  pub top-is : (j x : ℕ) → x ≡ largest_of (q.criteria + 2) arcs (length arcs / (q.criteria + 2)) j → q.hops * x ≡ top (asked q arcs) j
  unfolding top reach largest arc_count
  top-is j x e = ap (λ (z : ℕ). q.hops * z) e
