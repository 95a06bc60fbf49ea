-- Where a label leads, by what it holds, and how following it to the start ends. Assumes nothing.
use Rattle.std.specs.Prelude.{ℕ, ◌-◌, cond, List, length, Result, Ok, Err}
use Rattle.request.specs.Request.{Req, tail}
use Rattle.request.specs.declared.Refusal.{Refusal}
use Rattle.request.specs.declared.Refusal.TheVariants as refusal
use Rattle.rounds.specs.Rounds.{label_in}
use Rattle.rounds.specs.Label.{step, from}
use Rattle.route.specs.Chain.{Chain, whole, broken, start_holds, kept_holds, arc_holds}
use Rattle.route.specs.declared.store.Spot.{Spot}
use Rattle.route.specs.declared.store.Link.{Link}
use Rattle.route.specs.declared.store.Link.TheVariants as link

-- "starts at word ((i × N + v) × C + c)": layer i, node v, cell c
abbrev pub spot : ℕ → ℕ → ℕ → Spot
spot i v c = record { layer = i; node = v; cell = c }

-- a start ends the chain, a kept label leads to the same cell, an arc label to the tail's cell; at any other the chain breaks
unfoldable pub link_of : Req → List ℕ → ℕ → ℕ → ℕ → Result Link Refusal
link_of R W i v c =
    let l = label_in R W i v c in
    let a = step R l - 3 in
    let came = link.Came a (spot (i - 1) (tail R a) (from R l)) in
    let third = cond (arc_holds R i l v a (label_in R W (i - 1) (tail R a) (from R l))) (Ok came) (Err (refusal.Chain i)) in
    let second = cond (kept_holds R i l (label_in R W (i - 1) v c)) (Ok (link.Kept (spot (i - 1) v c))) third in
    cond (start_holds R i l v c) (Ok link.Ends) second

-- the answer for a chain: its arc count, or the layer in which it breaks, as number 16
abbrev pub trail_of : Chain → Result ℕ Refusal
trail_of (whole ws) = Ok (length ws)
trail_of (broken i) = Err (refusal.Chain i)
