-- A fault as people read it.
use Rattle.std.specs.Prelude.{ℕ, ◌+◌, ◌-◌, ◌%◌, cond, List, ◌++◌, length, codes, decimal, ◌==◌, nat_lt, slice_index}
use Rattle.keys.specs.Refusals.{refusal_number}
use Rattle.keys.specs.declared.refusal.Refusal.{Refusal}
use Rattle.listing.specs.declared.found.Found.{Found}
use Rattle.listing.specs.declared.found.Found.TheVariants.{Number, Byte, End}
use Rattle.listing.specs.declared.wanted.Wanted.{Wanted}
use Rattle.listing.specs.declared.wanted.Wanted.TheVariants.{Kinds, Length, Edition, FewRows, KeyWidth, TallyWidth, RequestLength, AnswerLength, RequestsStart, AnswersStart, FileEnd, Kind, Station, TwoZeros, Key, SecondKey, Code, ThreeZeros, NoTally}
use Rattle.archive.specs.declared.fault.Fault.{Fault}
use Rattle.archive.specs.declared.layer.Layer.{Layer}
use Rattle.archive.specs.declared.layer.Layer.TheVariants.{Header, Requests, Answers}
use Rattle.archive.specs.Checks.{field_at}
use Rattle.archive.specs.Format.{header_length, request_length, answer_length}
use Rattle.archive.specs.Layers.{fault_told}

-- a fault as it is told, on a line of its own
abbrev pub fault_line : Fault → List ℕ
fault_line f = fault_told f ++ codes "\n"

-- the number in the four bytes at an offset, 0 where there are not so many
abbrev pub told_at : ℕ → List ℕ → ℕ
told_at offset bytes = cond (nat_lt (length bytes) (offset + 4)) 0 (field_at bytes offset)

-- where the answer rows start, as a header tells it
abbrev pub told_start : List ℕ → ℕ
told_start bytes = told_at 28 bytes

-- where a field starts: in the header counted from the front of the file, in a row from the front of the row
abbrev pub place : ℕ → ℕ → List ℕ → Layer → ℕ → ℕ
place key tally bytes Header offset = offset
place key tally bytes Requests offset = (offset - header_length) % request_length key
place key tally bytes Answers offset = (offset - told_start bytes) % answer_length tally

-- what must stand in the header field at a place
abbrev pub in_header_wanted : ℕ → Wanted
in_header_wanted at =
    cond (at == 0) Edition (cond (at == 4) FewRows (cond (at == 8) KeyWidth (cond (at == 12) TallyWidth (cond (at == 16) RequestLength (cond (at == 20) AnswerLength (cond (at == 24) RequestsStart (cond (at == 28) AnswersStart (FileEnd))))))))

-- what must stand in the field of a request row at a place
abbrev pub in_request_wanted : ℕ → Wanted
in_request_wanted at =
    cond (at == 0) Kind (cond (at == 1) Station (cond (at == 2) TwoZeros (cond (at == 4) Key (SecondKey))))

-- what must stand in the field of an answer row at a place
abbrev pub in_answer_wanted : ℕ → Wanted
in_answer_wanted at = cond (at == 0) Code (cond (at == 1) ThreeZeros (NoTally))

-- what was expected, by the refusal; only five refusals are told of a file
abbrev pub wanted : Refusal → ℕ → Wanted
wanted refusal at =
    cond (refusal_number refusal == 16) Kinds (cond (refusal_number refusal == 13) Length (cond (refusal_number refusal == 12) (in_header_wanted at) (cond (refusal_number refusal == 14) (in_request_wanted at) (in_answer_wanted at))))

-- the words for it
abbrev pub wanted_text : Wanted → List ℕ
wanted_text Kinds = codes "kinds of at most 16 bytes"
wanted_text Length = codes "a header of 36 bytes and an end where the header tells it,"
wanted_text Edition = codes "edition 1"
wanted_text FewRows = codes "at most 1024 rows"
wanted_text KeyWidth = codes "the width of a key of the kind named"
wanted_text TallyWidth = codes "the width of a tally of the kind named"
wanted_text RequestLength = codes "the length of a request row"
wanted_text AnswerLength = codes "the length of an answer row"
wanted_text RequestsStart = codes "36, where the request rows start,"
wanted_text AnswersStart = codes "where the answer rows start"
wanted_text FileEnd = codes "the length of the file"
wanted_text Kind = codes "a kind from 1 to 4"
wanted_text Station = codes "a station from 1 to 8"
wanted_text TwoZeros = codes "two zero bytes"
wanted_text Key = codes "a key"
wanted_text SecondKey = codes "the second key of a count, or zero bytes,"
wanted_text Code = codes "a code that answers the request, or 0,"
wanted_text ThreeZeros = codes "three zero bytes"
wanted_text NoTally = codes "zero bytes, as there is no tally,"

-- the words for what stands there
abbrev pub found_text : Found → List ℕ
found_text (Number number) = codes "the number " ++ decimal number
found_text (Byte byte) = codes "a field that begins with byte " ++ decimal byte
found_text End = codes "the end of the file"

-- what stands at an offset: the number in a header field, else the byte
abbrev pub found : Refusal → List ℕ → ℕ → List ℕ
found refusal bytes offset =
    cond (refusal_number refusal == 12) (codes "the number " ++ decimal (told_at offset bytes)) (cond (nat_lt offset (length bytes)) (codes "a field that begins with byte " ++ decimal (slice_index bytes offset)) (codes "the end of the file"))

-- the sentence under the fault
abbrev pub sentence : ℕ → ℕ → List ℕ → Fault → List ℕ
sentence key tally bytes f =
    codes "expected " ++ (wanted_text (wanted f.refusal (place key tally bytes f.layer f.offset)) ++ (codes " at byte " ++ (decimal f.offset ++ (codes ", found " ++ (found f.refusal bytes f.offset ++ codes "\n")))))

abbrev pub fault_text : ℕ → ℕ → List ℕ → Fault → List ℕ
fault_text key tally bytes f = fault_line f ++ sentence key tally bytes f
