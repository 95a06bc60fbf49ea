-- A request in definitions: document 01's "Sizes" in numbers and lists, for any number of criteria. Assumes nothing.
use Rattle.std.specs.Prelude.{ℕ, ◌+◌, ◌-◌, ◌*◌, ◌/◌, Bool, List, length, get_or, drop, ltb}
use Rattle.words.specs.Pieces.{at}
use Rattle.request.specs.declared.Request.{Request}

-- The first `graded` of the `criteria` have a ratio; `rule new old` says whether costs `new` replace costs `old`.
pub record Req : Type 0 where
  pub nodes : ℕ
  pub criteria : ℕ
  pub graded : ℕ
  pub source : ℕ
  pub hops : ℕ
  pub ratios : List ℕ
  pub arcs : List ℕ
  pub rule : List ℕ → List ℕ → Bool

-- the last of d costs
abbrev pub last : ℕ → List ℕ → ℕ
last d xs = get_or xs (d - 1) 0

-- THE TIE RULE for d criteria: a cell's costs `old` give way where they hold "a strictly larger last cost"
unfoldable pub lower : ℕ → List ℕ → List ℕ → Bool
lower d new old = ltb (last d new) (last d old)

-- what the build, the read-back and the lister are asked: "a ratio for each criterion but the last"
abbrev pub asked : Request → List ℕ → Req
asked q arcs = record {
  nodes = q.nodes;
  criteria = q.criteria;
  graded = q.criteria - 1;
  source = q.source;
  hops = q.hops;
  ratios = q.ratios;
  arcs = arcs;
  rule = lower q.criteria;
}

-- p of criterion j, from 0
unfoldable pub ratio_p : Req → ℕ → ℕ
ratio_p R j = get_or R.ratios (j * 2) 0

-- and its q
unfoldable pub ratio_q : Req → ℕ → ℕ
ratio_q R j = get_or R.ratios (j * 2 + 1) 0

-- "An arc is d+2 words: tail, head, costs", and so many words has a label
abbrev pub width : Req → ℕ
width R = R.criteria + 2

-- M
unfoldable pub arc_count : Req → ℕ
arc_count R = length R.arcs / width R

-- the words of arc a, from 0
unfoldable pub arc : Req → ℕ → List ℕ
arc R a = at (width R) R.arcs a

-- its tail
unfoldable pub tail : Req → ℕ → ℕ
tail R a = get_or (arc R a) 0 0

-- its head
unfoldable pub head : Req → ℕ → ℕ
head R a = get_or (arc R a) 1 0

-- its costs
unfoldable pub arc_costs : Req → ℕ → List ℕ
arc_costs R a = drop 2 (arc R a)

-- the most arcs that a walk in the table has
unfoldable pub reach : Req → ℕ
reach R = R.hops
