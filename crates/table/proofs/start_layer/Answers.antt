-- `start_layer`: zeros, and one start in the source's block. Assumes nothing.
use mathlib.Core.Path.{◌≡◌, ap, ap₂, ◌∙◌}
use Prim.Native.Nat.{ℕ, ◌+◌, ◌*◌, ◌≤◌, ◌<◌}
use native.Mathlib.Nat.{mul-le-mul_right, one-mul}
use native.Mathlib.Omega.{arith}
use mathlib.Core.List.{List}
use lib.ListN.{length-drop, length-take}
use lib.Dec.{eqb}
use Rattle.words.specs.Pieces.{write, join}
use Rattle.words.proofs.Pieces.{piece-end}
use Rattle.request.specs.Request.{width}
use Rattle.rounds.specs.Rounds.{span, start_layer}
use Rattle.rounds.proofs.Start.{cells-pos}
use Rattle.tries.specs.declared.Frame.{Frame}
use Rattle.tries.specs.Tries.{asked_by}
use Rattle.tries.proofs.Frames.{span-is}
use Rattle.table.specs.Build.{start_words}
use Rattle.table.proofs.Starting.{layer-put, layer_is}
use Rattle.table.proofs.start_layer.Goals as goal

module _ (s : Frame) where
  -- a block holds a label at least
  one_label : width (asked_by s) ≤ span (asked_by s)
  one_label =
      let m = mul-le-mul_right (width (asked_by s)) (cells-pos (asked_by s) s.framed.regular) in
      let o = one-mul (width (asked_by s)) in
      omega arith

  -- what `start_layer` leaves
  started : (xs ls : List ℕ) → ls ≡ write xs 0 (join (λ v. start_words s.span s.d (eqb v s.request.source)) s.request.nodes) → ls ≡ write xs 0 (start_layer (asked_by s))
  started xs ls e =
      e
      ∙ ap₂ (λ (n d : ℕ). write xs 0 (join (λ v. start_words n d (eqb v s.request.source)) s.request.nodes)) (span-is s.framed) s.framed.d_is
      ∙ ap (write xs 0) (layer_is (asked_by s) one_label)

  -- the source's block lies in the layer, and its step word in the block
  source-end : s.request.source * s.span + s.span ≤ s.request.nodes * s.span
  source-end = piece-end s.span s.request.nodes s.request.source s.framed.regular.source_in

  step-in : s.d < s.span
  step-in = omega (arith, s.framed.d_is, span-is s.framed, one_label)

pub bounds-labels-source : goal.bounds-labels-source
bounds-labels-source c = let s = c.args.s.now in
    omega (arith, source-end s, step-in s, c.requires, c.clear.auto.part, length-drop (s.request.nodes * s.span) c.args.labels.now, length-take (s.request.nodes * s.span) c.args.labels.now)

pub returns : goal.returns
returns c = let s = c.args.s.now in
    rw c.word.ensures (started s c.args.labels.now _
    (layer-put s.span s.d s.request.source c.args.labels.now c.clear.new.part s.request.nodes c.requires s.framed.regular.source_in (step-in s) c.clear.ensures))
