-- `over`: N and d, then the arcs' words, then what is asked. Assumes nothing.
use mathlib.Core.Path.{◌≡◌, ap, sym, ◌∙◌}
use mathlib.Core.List.{[], ◌∷◌}
use mathlib.Core.Bool.{Bool, ◌||◌}
use Rattle.text.specs.Number.{any_over}
use Rattle.sheet.proofs.Puts.{over_front, over-asks, asks-are}
use Rattle.sheet.proofs.writer.Content.over.Goals as goal
use Rattle.sheet.proofs.writer.Content.over.Goals.{Joined-any_over, then-any_over, else-any_over}

-- of N, d and the arcs' words one is too large
front : (c : Joined-any_over) → c.if-any_over.value ≡ (any_over (c.args.self.now.request.nodes ∷ c.args.self.now.request.criteria ∷ []) || any_over c.args.self.now.arcs.now)
front c =
    elim c.if-any_over.branch [
      | then-any_over w ↦ w.value-is ∙ w.if-any_over.true ∙ sym (ap (λ (b : Bool). b || any_over c.args.self.now.arcs.now) (sym c.any_over.ensures ∙ w.if-any_over.true))
      | else-any_over w ↦ w.value-is ∙ w.any_over-else-any_over.ensures ∙ sym (ap (λ (b : Bool). b || any_over c.args.self.now.arcs.now) (sym c.any_over.ensures ∙ w.if-any_over.false))
    ]

pub returns-then-any_over-2 : goal.returns-then-any_over-2
returns-then-any_over-2 c = c.if-any_over-2.true
    ∙ sym (over_front c.args.self.now.request c.args.self.now.arcs.now (sym (front (goal.at.returns-then-any_over-2 c).Joined-any_over) ∙ c.if-any_over-2.true))

pub returns-else-any_over-2 : goal.returns-else-any_over-2
returns-else-any_over-2 c = c.any_over-else-any_over-2.ensures ∙ ap any_over (asks-are c.args.self.now.request _ c.asks-v.ensures)
    ∙ sym (over-asks c.args.self.now.request c.args.self.now.arcs.now (sym (front (goal.at.returns-else-any_over-2 c).Joined-any_over) ∙ c.if-any_over-2.false))
