-- `pack_refusal`: number and place. Assumes nothing.
use mathlib.Core.Path.{ap₂, ◌∙◌}
use Prim.Native.Nat.{ℕ}
use Rattle.request.specs.Refusal.{number_of, place_of}
use Rattle.desk.specs.Packed.{pack}
use Rattle.desk.proofs.Packing.{packed-refusal}
use Rattle.desk.proofs.pack_refusal.Goals as goal

pub returns : goal.returns
returns c =
    c.pack.ensures ∙ ap₂ (λ (n p : ℕ). pack n 0 p) c.number.ensures c.place.ensures ∙ packed-refusal (number_of c.args.refusal) (place_of c.args.refusal)
