-- The stand-ins are shut out. Assumes nothing.
use Prim.Native.Nat.{ℕ}
use mathlib.Core.Path.{◌≡◌, refl, sym, ap, ap₂, ◌∙◌}
use mathlib.Core.List.{List}
use native.Mathlib.Omega.{arith}
use lib.ListN.{length, get_or, replicate}
use contract.Lifetimes.{Lfts}
use denote.Ref.{Bor}
use denote.MutBor.{MutBor}
use Rattle.std.proofs.Common.{Result, Ok, Err}
use Rattle.words.specs.Loops.{up_to, total, any}
use Rattle.words.specs.Pieces.{part, write, at, put, join}
use Rattle.words.specs.Radix.{volume, radix}
use Rattle.words.specs.Rows.{weigh, each}
use Rattle.fences.specs.Fence as fence
use Rattle.request.specs.declared.Refusal.{Refusal}
use Rattle.request.specs.Request.{Req, asked, lower, ratio_p, ratio_q, arc_count, arc, tail, head, arc_costs, reach}
use Rattle.request.specs.Shape.{largest_of, largest, top, buckets, ladder, ladders, position, cells, cell, label_count}
use Rattle.request.specs.Rows.{outside, size_rows, ratio_row, arc_words_row, arc_fault, arc_row, bucket_row, label_row, ask_rows, arc_rows, shape_rows, rows}
use Rattle.rounds.specs.Label.{costs, step, from, filled, empty, start, kept, sum, candidate, came, wins}
use Rattle.rounds.specs.Rounds.{block, blank, start_block, start_layer, keep_cell, keep_block, keep_all, offer, try_cell, try_arc, arc_step, round, layer, table, filled_in, round_tries, tries}
use Rattle.table.specs.Build.{build_rows, built_of, ladders_after, labels_after}
use Rattle.promises.specs.StandIns.{example, tracks, Call, ladders_left, labels_left, ShutOut}

-- ---- what the promise says of a call on the example

module _ (k : ℕ) (c : Call k) where
  asked_is : asked c.args.0 c.args.1.0.now ≡ asked (example k) tracks
  asked_is = ap₂ asked c.request c.arcs

  answer-is : c.answer ≡ built_of (asked (example k) tracks) 5 192
  answer-is =
      c.allowed.0
      ∙ ap (λ (R : Req). built_of R (length c.args.1.1.0.now) (length c.args.1.1.1.0.now)) asked_is
      ∙ ap₂ (λ (xs ys : List ℕ). built_of (asked (example k) tracks) (length xs) (length ys)) c.ladders c.labels

  ladders_are : ladders_left c ≡ ladders_after (asked (example k) tracks) (replicate 5 0) 192
  ladders_are =
      c.allowed.1.0
      ∙ ap (λ (R : Req). ladders_after R c.args.1.1.0.now (length c.args.1.1.1.0.now)) asked_is
      ∙ ap₂ (λ (xs ys : List ℕ). ladders_after (asked (example k) tracks) xs (length ys)) c.ladders c.labels

  labels-are : labels_left c ≡ labels_after (asked (example k) tracks) 5 (replicate 192 0)
  labels-are =
      c.allowed.1.1
      ∙ ap (λ (R : Req). labels_after R (length c.args.1.1.0.now) c.args.1.1.1.0.now) asked_is
      ∙ ap₂ (λ (xs ys : List ℕ). labels_after (asked (example k) tracks) (length xs) ys) c.ladders c.labels

-- ---- what that is, by computation: the answer, a fence, and the step of layer 2, node 3, cell 3 (word 190) with 2 hops, with none, and where layer 1 is only kept

computed :
    (built_of (asked (example 2) tracks) 5 192 ≡ Ok 8)
    × (get_or (ladders_after (asked (example 2) tracks) (replicate 5 0) 192) 1 0 ≡ 1)
    × (get_or (labels_after (asked (example 2) tracks) 5 (replicate 192 0)) 190 0 ≡ 6)
    × (get_or (labels_after (asked (example 0) tracks) 5 (replicate 192 0)) 190 0 ≡ 0)
    × (get_or (keep_all (asked (example 2) tracks) (part (labels_after (asked (example 2) tracks) 5 (replicate 192 0)) 64 64)) 62 0 ≡ 0)
    × (get_or (part (labels_after (asked (example 2) tracks) 5 (replicate 192 0)) 128 64) 62 0 ≡ 6)
unfolding up_to total any write at put join volume radix weigh each fence.fence fence.fences fence.passed fence.position fence.buckets fence.ladder lower ratio_p ratio_q arc_count arc tail head arc_costs reach largest_of largest top buckets ladder ladders position cells cell label_count outside size_rows ratio_row arc_words_row arc_fault arc_row bucket_row label_row ask_rows arc_rows shape_rows rows costs step from filled empty start kept sum candidate came wins block blank start_block start_layer keep_cell keep_block keep_all offer try_cell try_arc arc_step round layer table filled_in round_tries tries build_rows built_of ladders_after labels_after example tracks
computed = (refl, refl, refl, refl, refl, refl)

-- ---- there are such calls, so this says something

pub called : (k : ℕ) → Lfts 3 → Call k
called k κs =
    let r : List ℕ → Bor (List ℕ) = λ xs. record { ref_ptr = (0, 0); now = xs } in
    let m : List ℕ → MutBor (List ℕ) = λ xs. record { ref_ptr = (0, 0); ghost_name = 0; now = xs } in
    record {
      lifetimes = κs;
      args = (example k, (r tracks, (m (replicate 5 0), (m (replicate 192 0), tt))));
      request = refl;
      arcs = refl;
      ladders = refl;
      labels = refl;
      answer = built_of (asked (example k) tracks) 5 192;
      left = (tt, (tt, (ladders_after (asked (example k) tracks) (replicate 5 0) 192, (labels_after (asked (example k) tracks) 5 (replicate 192 0), tt))));
      allowed = (refl, (refl, refl));
    }

-- ---- so each is shut out

pub shut_out : ShutOut
shut_out = record {
  refusing = λ c r e. let z : ◌≡◌ {A = Result ℕ Refusal} (Err r) (Ok 8) = sym e ∙ answer-is 2 c ∙ computed.0 in let n : ◌≡◌ {A = ℕ} 0 1 = cc in absurd (omega arith);
  same_table = λ c d e.
      let n : ◌≡◌ {A = ℕ} 6 0 = sym computed.2 ∙ ap seen (sym (labels-are 2 c) ∙ e ∙ labels-are 0 d) ∙ computed.3 in
      absurd (omega arith);
  no_labels = λ c e. let n : ◌≡◌ {A = ℕ} 6 0 = sym computed.2 ∙ ap seen (sym (labels-are 2 c) ∙ e ∙ c.labels) in absurd (omega arith);
  no_ladders = λ c e.
      let n : ◌≡◌ {A = ℕ} 1 0 = sym computed.1 ∙ ap (λ (xs : List ℕ). get_or xs 1 0) (sym (ladders_are 2 c) ∙ e ∙ c.ladders) in
      absurd (omega arith);
  only_keeping = λ c e.
      let after = labels-are 2 c in
      let n : ◌≡◌ {A = ℕ} 6 0 =
      sym computed.5
      ∙ ap (λ (xs : List ℕ). get_or xs 62 0) (ap (λ (xs : List ℕ). part xs 128 64) (sym after) ∙ e ∙ ap (λ (xs : List ℕ). keep_all (asked (example 2) tracks) (part xs 64 64)) after)
      ∙ computed.4 in
      absurd (omega arith);
  made_up = λ c t e. let z : ◌≡◌ {A = Result ℕ Refusal} (Ok t) (Ok 8) = sym e ∙ answer-is 2 c ∙ computed.0 in cc;
}
  where
    seen : List ℕ → ℕ
    seen xs = get_or xs 190 0
