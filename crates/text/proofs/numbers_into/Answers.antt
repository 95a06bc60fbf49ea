-- `numbers_into`: i numbers stand in front of what the buffer held, and the rest of the line says the rest. Assumes nothing.
use Rattle.std.proofs.Common.{◌≡◌, sym, ◌∙◌, arith, rules}
use lib.ListN.{length-set}
use Rattle.std.proofs.lemmas.List.{set-get_or}
use Rattle.text.specs.Fault.{fault}
use Rattle.text.proofs.Lines.{reading-start, reading-on, reading-wrong, reading-over, reading-end}
use Rattle.text.proofs.numbers_into.Goals as goal

pub loop-number-init : goal.loop-number-init
loop-number-init c = reading-start _ c.args.out.now _ _

pub returns-in_err-item : goal.returns-in_err-item
returns-in_err-item c =
    let whole = reading-wrong _ _ _ _ _ _ _ c.loop-number.invariant c.in_err-item.field-0.0.at (omega (arith, c.loop-number.invariant.long)) (sym c.item_at.ensures ∙ c.in_err-item.was) in
    let e : c.from_residual.result ≡ fault c.in_err-item.field-0.0.at = search rules in
    record { value = e ∙ whole.0; out_after = set-get_or _ _ _ ∙ whole.1 }

pub loop-number-preserved : goal.loop-number-preserved
loop-number-preserved c =
    reading-on _ _ _ _ _ _ _ c.loop-number.invariant _ _ (omega (arith, c.loop-number.invariant.long)) (simp length-set c.loop-number.invariant.long) (sym c.item_at.ensures ∙ c.in_ok-item.was)

pub returns-then-at-line : goal.returns-then-at-line
returns-then-at-line c =
    let whole = reading-over _ _ _ _ _ _ _ c.loop-number.invariant (omega (arith, c.loop-number.invariant.long)) c.if-at-line.true in
    record { value = whole.0; out_after = whole.1 }

pub returns : goal.returns
returns c =
    let whole = reading-end _ _ _ _ _ _ _ c.loop-number.invariant (omega (arith, c.loop-number.invariant.long)) c.if-at-line.false in
    record { value = whole.0; out_after = whole.1 }
