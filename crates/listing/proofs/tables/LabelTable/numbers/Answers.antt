-- `numbers`: the node, the costs, the arcs behind them, and the arc count between. Assumes nothing.
use Prim.Native.Nat.{ℕ, ◌+◌, ◌-◌, ◌≤◌}
use mathlib.Core.Path.{◌≡◌, sym, ap, ◌∙◌}
use mathlib.Core.List.{List}
use native.Mathlib.Omega.{arith}
use lib.ListN.{length, length-set, take, set}
use lib.Seq.{length-take-le}
use Rattle.std.specs.Prelude.{Result}
use Rattle.std.specs.Result.{result_unwrap_or}
use Rattle.words.specs.Pieces.{part, write}
use Rattle.words.proofs.Writes.{length_part}
use Rattle.request.specs.Request.{Req, reach}
use Rattle.request.specs.declared.Refusal.{Refusal}
use Rattle.rounds.specs.Label.{costs}
use Rattle.route.specs.Chain.{chain}
use Rattle.route.specs.Answer.{arcs_of}
use Rattle.route.specs.Links.{trail_of}
use Rattle.route.specs.declared.store.Spot.{Spot}
use Rattle.route.proofs.Sound.{chain-short}
use Rattle.listing.specs.Listing.{last_label, last_route, label_numbers}
use Rattle.listing.specs.Print.{asked_in}
use Rattle.listing.proofs.Chains.{count-is}
use Rattle.listing.proofs.Numbers as numbers
use Rattle.listing.proofs.Places.{label_is, cost-count, found-costs}
use Rattle.listing.proofs.tables.LabelTable.numbers.Goals as goal
use Rattle.listing.proofs.tables.LabelTable.numbers.Goals.{After-copy}

-- ---- after the costs

module _ (c : After-copy) where
  abbrev R-of : Req
  R-of = asked_in c.args.self.now.store

  abbrev d-of : ℕ
  d-of = c.args.self.now.store.request.criteria

  abbrev costs-of : List ℕ
  costs-of = c.copy.new.part

  -- those of the label
  stored : costs-of ≡ costs R-of (last_label R-of c.args.self.now.store.labels.now c.args.node c.args.cell)
  unfolding costs
  stored =
      let p = c.requires.node_lt_nodes in
      c.copy.ensures ∙ ap (take d-of) (label_is c.args.self.now _ _ p.0 p.1 _ _ c.spot-spot.ensures c.label.ensures)

  -- d of them
  size : length costs-of ≡ d-of
  size = let p = c.requires.node_lt_nodes in ap length stored ∙ cost-count c.args.self.now _ _ p.0 p.1

  -- the words once they are stored
  abbrev costs-in : List ℕ
  costs-in = numbers.with-costs c.args.words.now c.args.node d-of costs-of

  -- are as many as before
  long : length costs-in ≡ 68
  long = numbers.costs-long c.args.words.now c.args.node d-of costs-of c.requires.room c.args.self.now.store.small.three size

  -- there is room for as many arcs as the hops
  room : reach R-of ≤ length (part costs-in (d-of + 2) (length costs-in - (d-of + 2)))
  unfolding reach
  room =
      let k = c.args.self.now.store.small.three in
      let h = long in
      let e = length_part costs-in (d-of + 2) (length costs-in - (d-of + 2)) (omega arith) in
      omega (arith, e, c.args.self.now.store.small.hops_few)

-- ---- after the arcs

module _ (k : After-copy) (zs : List ℕ) where
  abbrev arcs-of : List ℕ
  arcs-of = let s = k.args.self.now.store in arcs_of (chain (asked_in s) s.labels.now s.request.hops k.args.node k.args.cell)

  -- at most 63 arcs
  few : length arcs-of ≤ 63
  few = let s = k.args.self.now.store in omega (arith, chain-short (asked_in s) s.labels.now s.request.hops k.args.node k.args.cell, s.small.hops_few)

  module _ (z : zs ≡ write (part (costs-in k) (d-of k + 2) (length (costs-in k) - (d-of k + 2))) 0 arcs-of) where
    -- the words once the arcs are stored
    abbrev words_of : List ℕ
    words_of = numbers.with-arcs k.args.words.now k.args.node (d-of k) (costs-of k) k.requires.room k.args.self.now.store.small.three (size k) arcs-of zs few z

    -- are as many as before
    long-still : length words_of ≡ 68
    long-still = numbers.arcs-long k.args.words.now k.args.node (d-of k) (costs-of k) k.requires.room k.args.self.now.store.small.three (size k) arcs-of zs few z

    -- and those in front, with the count between, are the label's numbers
    numbers-are : (n : ℕ) → n ≡ length arcs-of → take (d-of k + 2 + n) (set words_of (d-of k + 1) n) ≡ label_numbers (R-of k) k.args.self.now.store.labels.now k.args.node k.args.cell
    unfolding label_numbers last_route
    numbers-are n e = numbers.numbers-front k.args.words.now k.args.node (d-of k) (costs-of k) k.requires.room k.args.self.now.store.small.three (size k) arcs-of zs few z _ n (stored k) e

-- what was followed from the label's spot is its chain: its arcs, and their count
followed : (R : Req) (W : List ℕ) (i v c : ℕ) (s : Spot) (l ys : List ℕ) (r : Result ℕ Refusal) → s ≡ record { layer = i; node = v; cell = c } → r ≡ trail_of (chain R W s.layer s.node s.cell)
    → ys ≡ write l 0 (arcs_of (chain R W s.layer s.node s.cell)) → (result_unwrap_or r 0 ≡ length (arcs_of (chain R W i v c))) × (ys ≡ write l 0 (arcs_of (chain R W i v c)))
followed R W i v c s l ys r e f g = (
  ap (λ (r : Result ℕ Refusal). result_unwrap_or r 0) (f ∙ ap (λ (p : Spot). trail_of (chain R W p.layer p.node p.cell)) e) ∙ count-is (chain R W i v c),
  g ∙ ap (λ (p : Spot). write l 0 (arcs_of (chain R W p.layer p.node p.cell))) e,
)

pub slice_bounds-copy-end-2 : goal.slice_bounds-copy-end-2
slice_bounds-copy-end-2 c = let p = c.requires.node_lt_nodes in sym (found-costs c.args.self.now _ _ p.0 p.1 _ _ c.spot-spot.ensures c.label.ensures)

pub copy-requires : goal.copy-requires
copy-requires c =
    let d = c.args.self.now.store.request.criteria in
    let w = c.args.words.now in
    let p = c.requires.node_lt_nodes in
    let e : d + 1 - 1 ≡ d = omega arith in
    ap (λ (k : ℕ). length (part (set w 0 c.args.node) 1 k)) e
    ∙ length_part (set w 0 c.args.node) 1 d (omega (arith, c.requires.room, c.args.self.now.store.small.three, length-set w 0 c.args.node))
    ∙ sym (found-costs c.args.self.now _ _ p.0 p.1 _ _ c.spot-spot.ensures c.label.ensures)

pub follow-requires-clause-room : goal.follow-requires-clause-room
follow-requires-clause-room c = room (goal.at.follow-requires-clause-room c).After-copy

pub bounds-words-d : goal.bounds-words-d
bounds-words-d c =
    let f = followed _ _ _ _ _ _ _ _ _ c.spot-spot.ensures c.follow.ensures.value c.follow.ensures.route_after in
    omega (arith, long-still (goal.at.bounds-words-d c).After-copy _ f.1, c.args.self.now.store.small.three)

pub overflow_add-result-2 : goal.overflow_add-result-2
overflow_add-result-2 c =
    let f = followed _ _ _ _ _ _ _ _ _ c.spot-spot.ensures c.follow.ensures.value c.follow.ensures.route_after in
    omega (arith, c.unwrap_or-arcs.ensures, f.0, few (goal.at.overflow_add-result-2 c).After-copy c.follow.new.route, c.args.self.now.store.small.three)

pub slice_bounds-result-end : goal.slice_bounds-result-end
slice_bounds-result-end c =
    let f = followed _ _ _ _ _ _ _ _ _ c.spot-spot.ensures c.follow.ensures.value c.follow.ensures.route_after in
    let k = (goal.at.slice_bounds-result-end c).After-copy in
    let h = long-still k _ f.1 in
    let fits : c.args.self.now.store.request.criteria + 2 + c.unwrap_or-arcs.result ≤ 68 = omega (arith, c.unwrap_or-arcs.ensures, f.0, few k c.follow.new.route, c.args.self.now.store.small.three) in
    sym (length-take-le _ _ (omega (arith, length-set (words_of k _ f.1) (c.args.self.now.store.request.criteria + 1) c.unwrap_or-arcs.result)))

pub returns : goal.returns
returns c =
    let f = followed _ _ _ _ _ _ _ _ _ c.spot-spot.ensures c.follow.ensures.value c.follow.ensures.route_after in
    numbers-are (goal.at.returns c).After-copy _ f.1 c.unwrap_or-arcs.result (c.unwrap_or-arcs.ensures ∙ f.0)
