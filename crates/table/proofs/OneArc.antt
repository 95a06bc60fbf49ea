-- An arc's two nodes as `try_arcs` reads them: each with its block within a layer. Assumes nothing.
use Prim.Native.Nat.{ℕ, ◌+◌, ◌*◌, ◌/◌, ◌≤◌, ◌<◌}
use mathlib.Core.Path.{◌≡◌, ap, ◌∙◌}
use mathlib.Core.List.{List}
use native.Mathlib.Omega.{arith}
use lib.ListN.{length, get_or}
use Rattle.words.specs.Pieces.{at}
use Rattle.words.proofs.Pieces.{piece-end}
use Rattle.request.specs.Request.{arc_count, arc, tail, head}
use Rattle.rounds.specs.Rounds.{span}
use Rattle.tries.specs.declared.Frame.{Frame}
use Rattle.tries.specs.Tries.{asked_by}
use Rattle.tries.proofs.Frames.{width_is, span-is}

pub arc-count : (s : Frame) → length s.arcs.now / s.w ≡ arc_count (asked_by s)
unfolding arc_count
arc-count s = ap (λ (w : ℕ). length s.arcs.now / w) (width_is s.framed)

-- arc a, by its words
module _ (s : Frame) (a : ℕ) (words : List ℕ) (inside : a < length s.arcs.now / s.w) (words-are : words ≡ at s.w s.arcs.now a) where
  arc-is : words ≡ arc (asked_by s) a
  unfolding arc
  arc-is = words-are ∙ ap (λ (w : ℕ). at w s.arcs.now a) (width_is s.framed)

  tail-word : get_or words 0 0 ≡ tail (asked_by s) a
  unfolding tail
  tail-word = ap (λ (x : List ℕ). get_or x 0 0) arc-is

  head-word : get_or words 1 0 ≡ head (asked_by s) a
  unfolding head
  head-word = ap (λ (x : List ℕ). get_or x 1 0) arc-is

  -- what is known of it, in the frame's numbers
  pub record Here : Type 0 where
    pub index : a < arc_count (asked_by s)
    pub few : a < 512
    pub nodes_few : s.request.nodes ≤ 64
    pub small : s.span ≤ 6000000
    pub all : s.request.nodes * s.span ≡ s.request.nodes * span (asked_by s)
    pub tail-is : get_or words 0 0 ≡ tail (asked_by s) a
    pub tail_in : get_or words 0 0 < s.request.nodes
    pub head_in : get_or words 1 0 < s.request.nodes
    pub tail-end : get_or words 0 0 * s.span + s.span ≤ s.request.nodes * s.span
    pub head-end : get_or words 1 0 * s.span + s.span ≤ s.request.nodes * s.span
    pub tail_at : get_or words 0 0 * s.span ≡ tail (asked_by s) a * span (asked_by s)
    pub head_at : get_or words 1 0 * s.span ≡ head (asked_by s) a * span (asked_by s)

  pub here : Here
  here =
      let R = asked_by s in
      let i : a < arc_count R = omega (arith, arc-count s) in
      let t = tail-word in
      let h = head-word in
      let u : get_or words 0 0 < s.request.nodes = omega (arith, s.framed.regular.tail_in a i) in
      let v : get_or words 1 0 < s.request.nodes = omega (arith, s.framed.regular.head_in a i) in
      let e = span-is s.framed in
      record {
        index = i;
        few = omega (arith, s.framed.bounded);
        nodes_few = s.framed.bounded.nodes_few;
        small = s.framed.sized.small;
        all = ap (λ (n : ℕ). s.request.nodes * n) e;
        tail-is = t;
        tail_in = u;
        head_in = v;
        tail-end = piece-end s.span s.request.nodes (get_or words 0 0) u;
        head-end = piece-end s.span s.request.nodes (get_or words 1 0) v;
        tail_at = ap (λ (n : ℕ). n * s.span) t ∙ ap (λ (n : ℕ). tail R a * n) e;
        head_at = ap (λ (n : ℕ). n * s.span) h ∙ ap (λ (n : ℕ). head R a * n) e;
      }
