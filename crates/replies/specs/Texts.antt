-- The text of each answer of the console.
use Rattle.std.specs.Prelude.{ℕ, cond, List, [], ◌∷◌, ◌++◌, length, drop, Ok, Err, codes, decimal, Result, nat_lt}
use Rattle.keys.specs.declared.refusal.Refusal.{Refusal}
use Rattle.keys.specs.declared.refusal.Refusal.TheVariants.{TooShort}
use Rattle.keys.specs.Refusals.{refusal_number}
use Rattle.tallies.specs.declared.number.Number.{Number}
use Rattle.requests.specs.declared.answer.Answer.{Answer}
use Rattle.requests.specs.declared.answer.Answer.TheVariants.{Changed, Unchanged, Present, Absent, Counted}
use Rattle.requests.specs.Answers.{answer_code}
use Rattle.rules.specs.Words.{carried_word}
use Rattle.replies.specs.declared.reply.Reply.{Reply}
use Rattle.replies.specs.declared.reply.Reply.TheVariants.{Submitted, Followed, Carried, Collected, Refused}

-- a number in decimal behind its name
abbrev pub named : List ℕ → ℕ → List ℕ
named name number = name ++ decimal number

-- the tally that an answer tells, if it tells one
abbrev pub tally_words : Answer Number → List ℕ
tally_words Changed = []
tally_words Unchanged = []
tally_words Present = []
tally_words Absent = []
tally_words (Counted tally) = named (codes " tally ") tally.value

-- the words of an answer, one space between two
abbrev pub reply_words : Reply → List ℕ
reply_words (Submitted number) = named (codes "number ") number
reply_words (Followed place head) = named (codes "at ") place ++ named (codes " head ") head
reply_words (Carried carried) = carried_word carried
reply_words (Collected number answer) = named (codes "number ") number ++ (named (codes " answer ") (answer_code answer) ++ tally_words answer)
reply_words (Refused refusal) = named (codes "refused ") (refusal_number refusal)

-- the text of an answer: its words and a newline (10 in ASCII)
abbrev pub reply_text : Reply → List ℕ
reply_text reply = reply_words reply ++ (10 ∷ [])

-- so many bytes hold every answer
abbrev pub longest_reply : ℕ
longest_reply = 40

-- how long the text is, or that too few bytes are handed over
abbrev pub put_answer : Reply → List ℕ → Result ℕ Refusal
put_answer reply row = cond (nat_lt (length row) longest_reply) (Err TooShort) (Ok (length (reply_text reply)))

-- the text stands at the front, and the later bytes are kept; a refusal keeps all
abbrev pub put_after : Reply → List ℕ → List ℕ
put_after reply row = cond (nat_lt (length row) longest_reply) row (reply_text reply ++ drop (length (reply_text reply)) row)
