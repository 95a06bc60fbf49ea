-- Words, fences, a refusal's numbers, ladders, labels, one arc's tries and a label's chain: the functions that only the planner itself calls. Assumes nothing.
use mathlib.Core.Path.{refl}
use Rattle.promises.specs.Settled.{Settled}
use Rattle.promises.proofs.Agree.{agree, passed, lent, weighed-once}
use Rattle.words.proofs.clear
use Rattle.words.proofs.copy
use Rattle.words.proofs.word
use Rattle.fences.proofs.Ratio.count
use Rattle.fences.proofs.Ratio.fill
use Rattle.request.proofs.Refusal.number
use Rattle.request.proofs.Refusal.place as place_named
use Rattle.request.proofs.fill_ladders
use Rattle.request.proofs.weigh_criteria
use Rattle.request.proofs.weigh_arc_words
use Rattle.rounds.proofs.StepFromU32.from as step_from
use Rattle.rounds.proofs.Step.is_filled
use Rattle.rounds.proofs.Step.word as step_word
use Rattle.labels.proofs.add_costs
use Rattle.labels.proofs.place
use Rattle.tries.proofs.Frame.try_arc
use Rattle.route.proofs.store.Store.follow
use Rattle.route.proofs.store.Store.is_filled as store_is_filled

pub clear-settled : Settled clear.Kinds.ps clear.Kinds.r clear.Reads.Asked clear.Reads.Learnt
clear-settled κs a x y v w ok p q = (refl, lent (agree p q) refl)

pub copy-settled : Settled copy.Kinds.ps copy.Kinds.r copy.Reads.Asked copy.Reads.Learnt
copy-settled κs a x y v w ok p q = (refl, lent (agree p q) refl)

pub word-settled : Settled word.Kinds.ps word.Kinds.r word.Reads.Asked word.Reads.Learnt
word-settled κs a x y v w ok p q = (agree p q, refl)

pub ratio-count-settled : Settled count.Kinds.ps count.Kinds.r count.Reads.Asked count.Reads.Learnt
ratio-count-settled κs a x y v w ok p q = (agree p q, refl)

pub ratio-fill-settled : Settled fill.Kinds.ps fill.Kinds.r fill.Reads.Asked fill.Reads.Learnt
ratio-fill-settled κs a x y v w ok p q = (refl, passed (lent (agree p q) refl))

-- of a refusal
pub refusal-number-settled : Settled number.Kinds.ps number.Kinds.r number.Reads.Asked number.Reads.Learnt
refusal-number-settled κs a x y v w ok p q = (agree p q, refl)

pub refusal-place-settled : Settled place_named.Kinds.ps place_named.Kinds.r place_named.Reads.Asked place_named.Reads.Learnt
refusal-place-settled κs a x y v w ok p q = (agree p q, refl)

-- of rows 3 and 7
pub weigh-criteria-settled : Settled weigh_criteria.Kinds.ps weigh_criteria.Kinds.r weigh_criteria.Reads.Asked weigh_criteria.Reads.Learnt
weigh-criteria-settled κs a x y v w ok p q = (weighed-once x y (agree p q), refl)

pub weigh-arc-words-settled : Settled weigh_arc_words.Kinds.ps weigh_arc_words.Kinds.r weigh_arc_words.Reads.Asked weigh_arc_words.Reads.Learnt
weigh-arc-words-settled κs a x y v w ok p q = (weighed-once x y (agree p q), refl)

-- of a label's step
pub step-from-settled : Settled step_from.Kinds.ps step_from.Kinds.r step_from.Reads.Asked step_from.Reads.Learnt
step-from-settled κs a x y v w ok p q = (agree p q, refl)

pub step-word-settled : Settled step_word.Kinds.ps step_word.Kinds.r step_word.Reads.Asked step_word.Reads.Learnt
step-word-settled κs a x y v w ok p q = (agree p q, refl)

pub step-is-filled-settled : Settled is_filled.Kinds.ps is_filled.Kinds.r is_filled.Reads.Asked is_filled.Reads.Learnt
step-is-filled-settled κs a x y v w ok p q = (agree p q, refl)

pub fill-ladders-settled : Settled fill_ladders.Kinds.ps fill_ladders.Kinds.r fill_ladders.Reads.Asked fill_ladders.Reads.Learnt
fill-ladders-settled κs a x y v w ok p q = (refl, lent (agree p q) refl)

pub add-costs-settled : Settled add_costs.Kinds.ps add_costs.Kinds.r add_costs.Reads.Asked add_costs.Reads.Learnt
add-costs-settled κs a x y v w ok p q = (refl, lent (agree p q) refl)

pub place-settled : Settled place.Kinds.ps place.Kinds.r place.Reads.Asked place.Reads.Learnt
place-settled κs a x y v w ok p q = (refl, lent (agree p q) refl)

pub frame-try-arc-settled : Settled try_arc.Kinds.ps try_arc.Kinds.r try_arc.Reads.Asked try_arc.Reads.Learnt
frame-try-arc-settled κs a x y v w ok p q = (refl, passed (lent (agree p q) refl))

pub store-follow-settled : Settled follow.Kinds.ps follow.Kinds.r follow.Reads.Asked follow.Reads.Learnt
store-follow-settled κs a x y v w ok p q = (agree p.0 q.0, passed (passed (lent (agree p.1 q.1) refl)))

pub store-is-filled-settled : Settled store_is_filled.Kinds.ps store_is_filled.Kinds.r store_is_filled.Reads.Asked store_is_filled.Reads.Learnt
store-is-filled-settled κs a x y v w ok p q = (agree p q, refl)
