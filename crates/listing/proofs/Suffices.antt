-- The lister's own bytes: the listing of a table of at most 12,288 words is under 53,000 bytes, so that many bytes suffice. Assumes nothing.
use Prim.Native.Nat.{ℕ, ◌+◌, ◌*◌, ◌≤◌, ◌<◌, zero-le}
use mathlib.Core.Path.{◌≡◌, refl, ap, ◌∙◌, subst}
use mathlib.Core.Logic.{⊎_elim}
use mathlib.Core.List.{List, [], ◌∷◌}
use native.Mathlib.Nat.{le_refl, le_trans, le_of_eq, mul_assoc, mul-le-mul}
use native.Mathlib.Omega.{arith}
use lib.ListN.{length, get_or, get_or-eq_default}
use lib.Seq.{take-length}
use lib.Dec.{T}
use Rattle.words.specs.Bounds.{AtMost}
use Rattle.words.specs.Rows.{clear, weigh}
use Rattle.words.proofs.Choices.{cond_cases, lt-or-le}
use Rattle.words.proofs.Loops.{total-le}
use Rattle.words.proofs.Rows.{weigh-append, weigh-passed, weigh-none}
use Rattle.text.specs.Number.{digits}
use Rattle.text.specs.Line.{parted_width}
use Rattle.text.proofs.Digits.{width_word}
use Rattle.text.proofs.Puts.{line-width}
use Rattle.request.specs.declared.Request.{Request}
use Rattle.request.specs.Request.{Req, asked, width, arc_count}
use Rattle.request.specs.Shape.{cells, label_count}
use Rattle.request.specs.Accepted.{Accepted}
use Rattle.request.specs.Answer.{shape_of}
use Rattle.request.specs.Rows.{rows}
use Rattle.request.proofs.Accepted.{accepted-regular, accepted-small, accepted-fits}
use Rattle.request.proofs.Tests.{lt-fails}
use Rattle.request.proofs.Tops.{largest-le}
use Rattle.sheet.specs.Grammar.{sheet_of, tab}
use Rattle.sheet.specs.Reader.{words_of, request_of, form_rows}
use Rattle.rounds.specs.Label.{costs, filled}
use Rattle.rounds.specs.Rounds.{label_at, table, tries}
use Rattle.rounds.proofs.Costs.{Within, layer-costs}
use Rattle.rounds.proofs.Tries.{bit_le}
use Rattle.route.specs.Walked.{Fronts}
use Rattle.route.proofs.Tables.{label-in}
use Rattle.route.proofs.Sound.{chain-short}
use Rattle.listing.specs.Listing.{cover_word, last_label, last_route, filled_at, filled_of, filled_last, label_numbers, label_line, node_lines, label_lines, cover_line}
use Rattle.listing.specs.List.{asks, listing_of, request_rows, list_rows}
use Rattle.listing.proofs.Chains.{chain-arcs}
use Rattle.listing.proofs.Lengths.{three-digits, eight-digits, no-digits, parted-few, line-le, join-le, some-hops, no-hops}
use Rattle.listing.proofs.Places.{Tabled, costs-long, few-labels}
use Rattle.listing.proofs.Prints.{listing-length}
use Rattle.listing.proofs.Requests.{tabled}
use Rattle.listing.proofs.Rooms.{tries-few}

module _ (q : Request) (arcs : List ℕ) (ok : Accepted (asked q arcs)) where
  abbrev R : Req
  R = asked q arcs

  abbrev W : List ℕ
  W = table (asked q arcs)

  -- the table's words are a table's
  is-table : Tabled R W (cells R)
  is-table = tabled q arcs ok (shape_of R) refl

  -- in front of themselves
  pub front : Fronts (asked q arcs) (table (asked q arcs))
  unfolding Fronts
  front = take-length W

  -- the label of the last layer
  pub last-is : (v c : ℕ) → v < q.nodes → c < cells (asked q arcs) → last_label (asked q arcs) (table (asked q arcs)) v c ≡ label_at (asked q arcs) q.hops v c
  unfolding last_label
  last-is v c hv hc = label-in R (accepted-regular R ok) W front q.hops v c (le_refl q.hops) hv hc

  -- its costs are at most K times 1,000,000
  costs_most : (v c : ℕ) → v < q.nodes → c < cells R → T (filled R (last_label R W v c)) → AtMost (q.hops * 1000000) (costs R (last_label R W v c))
  unfolding AtMost Within
  costs_most v c hv hc t j = ⊎_elim inside beyond (lt-or-le j q.criteria)
    where
      -- of the d costs
      inside : j < q.criteria → get_or (costs R (last_label R W v c)) j 0 ≤ q.hops * 1000000
      inside l =
          let e = last-is v c hv hc in
          let w = layer-costs R (accepted-regular R ok) q.hops v c hv hc (subst (λ (x : List ℕ). T (filled R x)) e t) j in
          let m = mul-le-mul (le_refl q.hops) (largest-le R (accepted-small R ok) j l) in
          omega (arith, ap (λ (x : List ℕ). get_or (costs R x) j 0) e, w, m)

      -- past them
      beyond : q.criteria ≤ j → get_or (costs R (last_label R W v c)) j 0 ≤ q.hops * 1000000
      beyond g =
          let n = costs-long q arcs W (cells R) is-table v c hv hc in
          le_trans (le_of_eq (get_or-eq_default (costs R (last_label R W v c)) 0 (omega arith))) zero-le

  -- ---- a line, where costs have at most w digits

  module _ (w : ℕ) (short : (n : ℕ) → n ≤ q.hops * 1000000 → length (digits n) ≤ w) where
    -- the bytes of one label
    line-few : (v c : ℕ) → v < q.nodes → c < cells R → length (label_line R W v c) ≤ 12 + q.criteria * (w + 1) + q.hops * 4
    unfolding label_line label_numbers last_route
    line-few v c hv hc =
        cond_cases (λ (l : List ℕ). length l ≤ 12 + q.criteria * (w + 1) + q.hops * 4) (filled R (last_label R W v c))
        (λ t. line-le v (length (last_route R W v c)) q.criteria w q.hops (costs R (last_label R W v c)) (last_route R W v c)
        (omega (arith, (accepted-small R ok).nodes_few)) (omega (arith, arcs-short, (accepted-small R ok).hops_few)) (costs-width t) arcs-width)
        (λ _. zero-le)
      where
        -- at most K arcs
        arcs-short : length (last_route R W v c) ≤ q.hops
        arcs-short = chain-short R W q.hops v c

        -- arc numbers have at most three digits
        three : (n : ℕ) → n ≤ arc_count R → length (digits n) ≤ 3
        three n l = three-digits n (omega (arith, (accepted-small R ok).arcs_few))

        -- so the arcs take at most 4 bytes for each hop
        arcs-width : parted_width (last_route R W v c) ≤ q.hops * 4
        arcs-width = omega (arith, parted-few (arc_count R) 3 three (last_route R W v c) (chain-arcs R W q.hops v c), arcs-short)

        -- and the costs at most w + 1 bytes each
        costs-width : T (filled R (last_label R W v c)) → parted_width (costs R (last_label R W v c)) ≤ q.criteria * (w + 1)
        costs-width t =
            subst (λ (n : ℕ). parted_width (costs R (last_label R W v c)) ≤ n * (w + 1)) (costs-long q arcs W (cells R) is-table v c hv hc)
            (parted-few (q.hops * 1000000) w short (costs R (last_label R W v c)) (costs_most v c hv hc t))

    -- and of all
    lines-few : length (label_lines R W) ≤ q.nodes * (cells R * (12 + q.criteria * (w + 1) + q.hops * 4))
    unfolding label_lines node_lines
    lines-few =
        join-le (node_lines R W) (cells R * (12 + q.criteria * (w + 1) + q.hops * 4)) q.nodes
        (λ v hv. join-le (label_line R W v) (12 + q.criteria * (w + 1) + q.hops * 4) (cells R) (λ c hc. line-few v c hv hc))

  -- ---- the whole listing, from 12,288 words

  -- the labels
  labels_few : label_count R * width R ≤ 12288 → length (label_lines R W) ≤ 52900
  unfolding label_count
  labels_few h = ⊎_elim none some (lt-or-le q.hops 1)
    where
      -- with no hop costs are 0
      none : q.hops < 1 → length (label_lines R W) ≤ 52900
      none l =
          let z : q.hops ≡ 0 = omega arith in
          let few = no-hops (q.nodes * cells R) q.hops q.criteria (accepted-small R ok).two (accepted-small R ok).three z h in
          omega (arith, lines-few 1 (λ n g. no-digits n (omega arith)), mul_assoc q.nodes (cells R) (12 + q.criteria * 2 + q.hops * 4))

      -- else they have at most eight digits
      some : 1 ≤ q.hops → length (label_lines R W) ≤ 52900
      some l =
          let few = some-hops (q.nodes * cells R) q.hops q.criteria (accepted-small R ok).two (accepted-small R ok).three l h in
          let lines = lines-few 8 (λ n g. eight-digits n (omega (arith, g, (accepted-small R ok).hops_few))) in
          omega (arith, mul_assoc q.nodes (cells R) (12 + q.criteria * 9 + q.hops * 4))

  -- as many filled labels as there are labels in a layer, at most
  filled-few : filled_last R W ≤ q.nodes * cells R
  unfolding filled_last filled_of filled_at
  filled-few =
      total-le (filled_of R W) (cells R) q.nodes
      (λ v _. let t = total-le (filled_at R W v) 1 (cells R) (λ c _. bit_le (filled R (last_label R W v c))) in omega arith)

  -- the cover
  cover-few : length (cover_line R W (tries R q.hops)) ≤ 28
  unfolding cover_line parted_width
  cover-few =
      let t = tries-few R (accepted-regular R ok) (accepted-small R ok) (accepted-fits R ok) in
      let f = filled-few in
      let l = few-labels q arcs W (cells R) is-table in
      omega (arith, line-width tab cover_word (filled_last R W ∷ tries R q.hops ∷ []), width_word (filled_last R W) (omega arith), width_word (tries R q.hops) (omega arith))

  -- EVERY LISTING FROM 12,288 LABEL WORDS IS UNDER 53,000 BYTES
  pub listing-few : label_count (asked q arcs) * width (asked q arcs) ≤ 12288 → length (listing_of (asked q arcs)) < 53000
  unfolding listing_of
  listing-few h = omega (arith, listing-length R W (tries R q.hops), cover-few, labels_few h)

-- 53,000 BYTES SUFFICE FOR EVERY SHEET: where no row before it holds, the 13 with place 3 does not hold either
pub bytes-suffice : (s : List ℕ) (room : ℕ) → 53000 ≤ room → weigh (form_rows s) ≡ clear → Accepted (asks s) → label_count (asks s) * width (asks s) ≤ 12288 → weigh (list_rows s room) ≡ clear
unfolding list_rows request_rows Accepted asks
bytes-suffice s room g form ok h =
    let l : length (listing_of (asks s)) ≤ room = omega (arith, listing-few (request_of (sheet_of s)) (words_of (sheet_of s)) ok h) in
    weigh-append (form_rows s) _ form ∙ weigh-append (rows (asks s)) _ ok ∙ weigh-passed _ _ (lt-fails h) ∙ weigh-passed _ _ (lt-fails l) ∙ weigh-none
