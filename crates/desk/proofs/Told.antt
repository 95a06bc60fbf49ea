-- "one 64-bit number from which all of these can be told": of every call. Assumes nothing.
use Prim.Native.Nat.{ℕ}
use mathlib.Core.Path.{◌≡◌}
use mathlib.Core.List.{List}
use Rattle.request.specs.declared.Request.{Request}
use Rattle.request.specs.Request.{asked}
use Rattle.sheet.specs.Reader.{read_says}
use Rattle.sheet.specs.Writer.{write_says}
use Rattle.table.specs.Build.{built_of, built_said}
use Rattle.route.specs.Answer.{ending_of}
use Rattle.listing.specs.List as list
use Rattle.desk.specs.Packed.{packed, answer_of}
use Rattle.desk.specs.Calls.{ending_said}
use Rattle.desk.proofs.Packing.{answer-told}
use Rattle.desk.proofs.Answers.{read_answer, write-answer}
use Rattle.desk.proofs.Builds.{built-answer}
use Rattle.desk.proofs.Routes.{back-answer}
use Rattle.desk.proofs.Lists.{list-answer}

pub read_told : (s : List ℕ) (room : ℕ) → answer_of (packed (read_says s room)) ≡ read_says s room
read_told s room = answer-told (read_says s room) (read_answer s room)

pub write-told : (r : Request) (words : List ℕ) (room : ℕ) → answer_of (packed (write_says r words room)) ≡ write_says r words room
write-told r words room = answer-told (write_says r words room) (write-answer r words room)

pub build-told : (q : Request) (arcs : List ℕ) (a b : ℕ) → answer_of (packed (built_said (built_of (asked q arcs) a b))) ≡ built_said (built_of (asked q arcs) a b)
build-told q arcs a b = answer-told (built_said (built_of (asked q arcs) a b)) (built-answer q arcs a b)

pub back-told : (q : Request) (arcs W : List ℕ) (room i v c : ℕ) → answer_of (packed (ending_said (ending_of (asked q arcs) W room i v c))) ≡ ending_said (ending_of (asked q arcs) W room i v c)
back-told q arcs W room i v c = answer-told (ending_said (ending_of (asked q arcs) W room i v c)) (back-answer q arcs W room i v c)

pub list-told : (s : List ℕ) (room : ℕ) → answer_of (packed (list.said (list.listed_of s room))) ≡ list.said (list.listed_of s room)
list-told s room = answer-told (list.said (list.listed_of s room)) (list-answer s room)
