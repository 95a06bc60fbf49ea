-- `list_shaped`: the build's refusal, or the table's listing. Assumes nothing.
use Prim.Native.Nat.{ℕ, ◌+◌, ◌*◌, ◌≤◌}
use mathlib.Core.Path.{◌≡◌, sym, ap, ap₂, ◌∙◌}
use mathlib.Core.List.{List}
use native.Mathlib.Omega.{arith}
use lib.ListN.{length, take, replicate, length-replicate}
use lib.Seq.{length-take-le}
use Rattle.std.proofs.Common.{rules, Ok, Err}
use Rattle.request.specs.Request.{Req, asked, width}
use Rattle.request.specs.Shape.{ladders, label_count}
use Rattle.rounds.specs.Rounds.{table, tries}
use Rattle.table.specs.Build.{built_of}
use Rattle.listing.specs.Listing.{listing_text}
use Rattle.listing.specs.Print.{printed_of, bytes_after}
use Rattle.listing.specs.List.{listing_of}
use Rattle.listing.proofs.Places.{Tabled}
use Rattle.listing.proofs.Rooms.{ladders-few, tries-few}
use Rattle.listing.proofs.Requests.{lists-many, lists-printed, build_refused, build-tries, build-words, shape-words, tabled, table-front}
use Rattle.listing.proofs.sheets.list_shaped.Goals as goal
use Rattle.listing.proofs.sheets.list_shaped.Goals.{After-build}

-- the listing of the words that were built is the request's
listing-is : (R : Req) (W : List ℕ) (t : ℕ) → W ≡ table R → t ≡ tries R R.hops → listing_text R W t ≡ listing_of R
unfolding listing_of
listing-is R W t e f = ap₂ (listing_text R) e f

-- ---- after the build
module _ (c : After-build) where
  abbrev R-of : Req
  R-of = asked c.args.request c.args.arcs.now

  -- the ladders' room is enough
  enough : length (ladders R-of) ≤ length (replicate {A = ℕ} 8194 0)
  enough = omega (arith, ladders-few c.args.request c.args.arcs.now c.requires.0, length-replicate {A = ℕ} 8194 0)

  -- the answer, with the rooms as numbers
  answered : c.build.result ≡ built_of R-of (length (replicate {A = ℕ} 8194 0)) 12288
  answered = c.build.ensures.value ∙ ap (built_of R-of (length (replicate {A = ℕ} 8194 0))) (length-replicate {A = ℕ} 12288 0)

  -- the table of a request that is accepted
  whole : Tabled R-of (table R-of) c.args.shape.cells
  whole = tabled c.args.request c.args.arcs.now c.requires.0 c.args.shape c.requires.1

  -- ---- where it counted tries

  module _ (t : ℕ) (e : c.build.result ≡ Ok t) where
    -- the table fits
    fits : label_count R-of * width R-of ≤ 12288
    fits = (build-tries R-of c.requires.0 (length (replicate {A = ℕ} 8194 0)) enough t (sym e ∙ answered)).0

    -- the tries are the rounds'
    counted : t ≡ tries R-of R-of.hops
    counted = (build-tries R-of c.requires.0 (length (replicate {A = ℕ} 8194 0)) enough t (sym e ∙ answered)).1

    -- and fit a word
    small : t ≤ 536870912
    small = omega (arith, counted, tries-few R-of whole.regular whole.small whole.fits)

    -- so do the table's words
    few : c.args.shape.labels * (c.args.request.criteria + 2) ≤ 12288
    few = omega (arith, fits, shape-words c.args.request c.args.arcs.now c.requires.0 c.args.shape c.requires.1)

    -- the words in front are the table
    front : take (c.args.shape.labels * (c.args.request.criteria + 2)) c.build.new.labels ≡ table R-of
    front =
        table-front c.args.request c.args.arcs.now c.requires.0 c.args.shape c.requires.1 (replicate 12288 0) _ (length-replicate {A = ℕ} 12288 0) fits
        (c.build.ensures.labels_after ∙ build-words R-of c.requires.0 (length (replicate {A = ℕ} 8194 0)) enough (replicate 12288 0) (length-replicate {A = ℕ} 12288 0) fits)

    -- the labels are as many as before
    long : length c.build.new.labels ≡ 12288
    long = c.build.auto.labels ∙ length-replicate {A = ℕ} 12288 0

pub slice_bounds-labels-end : goal.slice_bounds-labels-end
slice_bounds-labels-end c =
    let k = (goal.at.slice_bounds-labels-end c).After-build in
    omega (arith, few k _ c.in_ok-tries.was, long k _ c.in_ok-tries.was)

pub slice_bounds-store-end : goal.slice_bounds-store-end
slice_bounds-store-end c =
    let k = (goal.at.slice_bounds-store-end c).After-build in
    sym (length-take-le _ _ (omega (arith, few k _ c.in_ok-tries.was, long k _ c.in_ok-tries.was)))

pub invariant_of-store : goal.invariant_of-store
invariant_of-store c =
    let t = whole (goal.at.invariant_of-store c).After-build in
    record { regular = t.regular; small = t.small; fits = t.fits; cells_is = t.cells_is }

pub invariant_of-table : goal.invariant_of-table
invariant_of-table c =
    let k = (goal.at.invariant_of-table c).After-build in
    record { words = ap length (front k _ c.in_ok-tries.was) ∙ (whole k).words }

pub overflow_cast-tries : goal.overflow_cast-tries
overflow_cast-tries c = omega (arith, small (goal.at.overflow_cast-tries c).After-build _ c.in_ok-tries.was)

pub returns-in_err-tries : goal.returns-in_err-tries
returns-in_err-tries c =
    let k = (goal.at.returns-in_err-tries c).After-build in
    let r = c.in_err-tries.field-0.0 in
    let p = build_refused (R-of k) c.requires.0 (length (replicate {A = ℕ} 8194 0)) (enough k) r (sym c.in_err-tries.was ∙ answered k) in
    let l = lists-many (R-of k) c.args.listing.now c.requires.0 p.0 in
    let e : c.from_residual.result ≡ Err r = search rules in
    record { value = e ∙ ap Err p.1 ∙ l.says; listing_after = l.left }

pub returns : goal.returns
returns c =
    let k = (goal.at.returns c).After-build in
    let e = c.in_ok-tries.was in
    let b = c.args.listing.now in
    let p = c.print in
    let t = listing-is (R-of k) _ _ (front k _ e) (counted k _ e) in
    let l = lists-printed (R-of k) b c.requires.0 (fits k _ e) p.result p.new.listing
    (p.ensures.value ∙ ap (λ (x : List ℕ). printed_of x (length b)) t) (p.ensures.listing_after ∙ ap (λ (x : List ℕ). bytes_after x b) t) in
    record { value = c.ok_or.ensures.value ∙ l.says; listing_after = l.left }
