-- What answering a transmission has at hand.
use Rattle.std.specs.Prelude.{◌≡◌, ℕ, List, []}
use Rattle.x12_envelopes.specs.declared.header.Header.{Header}
use Rattle.x12_judge.specs.Verdict.{InterchangeJudgement}
use Rattle.x12_answering.specs.declared.answering.Session.{Session}
use Rattle.x12_answering.specs.Answering.{Terms, Answer, answer_at, answers_from, judged_answer}

-- the terms that a session answers under
abbrev pub session_terms : Session → Terms
session_terms d = record {
  me = d.me;
  at = d.at;
  lenient = d.agreement.lenient;
  pairs = d.agreement.pairs.items;
}

-- nothing that it gathered waits to be written
pub record NothingWaits (d : Session) : Type 0 where
  pub replies : d.replies.items ≡ []
  pub lines : d.lines.items ≡ []

-- the answer of a session to the interchange at a place, with this header, that deserves this
abbrev pub session_reply : Session → ℕ → Header → InterchangeJudgement → Answer
session_reply d place h j = judged_answer (session_terms d) d.numbers place h j

-- the answer of a session to the interchange at a place
abbrev pub session_answer : Session → ℕ → List ℕ → Answer
session_answer d place bytes = answer_at (session_terms d) d.numbers place bytes

-- the answers of a session to interchanges from the first place on
abbrev pub session_answers : Session → List (List ℕ) → List Answer
session_answers d interchanges = answers_from (session_terms d) d.numbers 1 interchanges
