-- What the functions inside the reader answer, by the definitions of `Grammar`. Assumes nothing.
use Rattle.std.specs.Prelude.{ℕ, Bool, true, false, Option, Some, None, Result, Ok, Err}
use Rattle.request.specs.declared.Request.{Request}
use Rattle.request.specs.declared.Refusal.{Refusal}
use Rattle.request.specs.declared.Refusal.TheVariants as refusal
use Rattle.text.specs.Line.{Got, good, bad}
use Rattle.sheet.specs.declared.reader.LineKind.{LineKind}
use Rattle.sheet.specs.declared.reader.LineKind.TheVariants.{Arc, Ask}
use Rattle.sheet.specs.declared.reader.Form.{Form}
use Rattle.sheet.specs.Reader.{request_from}
use Rattle.sheet.specs.Grammar.{Kind, an_arc, an_ask, neither, Contents, whole, broken}

-- whether a line is good
abbrev pub is_good : Got → Bool
is_good (good vs) = true
is_good (bad j vs) = false

-- the request of N and d that an `ask` line completes
abbrev pub ask_kind : ℕ → ℕ → Got → Option Request
ask_kind n d (good vs) = Some (request_from n d vs)
ask_kind n d (bad j vs) = None

-- the kind of a line after N and d, without an arc's words
abbrev pub line_kind : ℕ → ℕ → Kind → Option LineKind
line_kind n d (an_arc vs) = Some Arc
line_kind n d (an_ask vs) = Some (Ask (request_from n d vs))
line_kind n d neither = None

-- a sheet without its arcs' words, or its first bad line
abbrev pub form_of : Contents → Result Form Refusal
form_of (whole n d m words asks) = Ok (record { request = request_from n d asks; arcs = m })
form_of (broken k) = Err (refusal.Form k)
