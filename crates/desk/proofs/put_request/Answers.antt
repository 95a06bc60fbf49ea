-- `put_request`: word by word. Assumes nothing.
use borrow.Author.Rules.{rules}
use Rattle.desk.specs.Calls.{request_words}
use Rattle.desk.proofs.put_request.Goals as goal

pub returns : goal.returns
unfolding request_words
returns c = search rules
