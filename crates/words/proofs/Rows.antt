-- The words of a route and its text are one thing in two forms. Rests on Texts and on the pieces of a text.
use Rattle.std.proofs.Common.{◌≡◌, ℕ, ◌<◌, List, [], ◌∷◌, Some, None, decimal, Option, sym, ap, ◌∙◌}
use Rattle.octets.specs.Cuts.{pieces}
use Rattle.octets.proofs.Joins.{joined_by, joined-pieces, pieces_alone, pieces-before}
use Rattle.keys.specs.declared.class.Class.{Class}
use Rattle.keys.specs.Classes.{class_letter}
use Rattle.words.specs.declared.routes.RouteWords.{RouteWords}
use Rattle.words.specs.Figures.{number_in}
use Rattle.words.specs.Letters.{letter_in}
use Rattle.words.specs.Lines.{all_three, row_words, line_words}
use Rattle.words.specs.Meaning.{Written, fields_text}
use Rattle.words.proofs.Texts.{number_text, number_short, number_back, decimal_lacks, letter_text, letter_back, letter_lacks}

-- each of the three is there
pub record Three (p q : Option ℕ) (r : Option Class) (w : RouteWords) : Type 0 where
  pub entry : p ≡ Some w.entry
  pub exit : q ≡ Some w.exit
  pub class : r ≡ Some w.class

pub all_three_parts : (p q : Option ℕ) (r : Option Class) (w : RouteWords) → all_three p q r ≡ Some w → Three p q r w
all_three_parts None q r w h = absurd cc
all_three_parts (Some e) None r w h = absurd cc
all_three_parts (Some e) (Some x) None w h = absurd cc
all_three_parts (Some e) (Some x) (Some c) w h =
    let same : ◌≡◌ {A = RouteWords} (record { entry = e; exit = x; class = c }) w = cc in
    record { entry = ap (λ v. Some v.entry) same; exit = ap (λ v. Some v.exit) same; class = ap (λ v. Some v.class) same }

-- words that are read are the text of what they say
row_written : (row : List (List ℕ)) (w : RouteWords) → row_words row ≡ Some w → Written (joined_by 32 row) w.entry w.exit w.class
row_written [] w h = absurd cc
row_written (a ∷ []) w h = absurd cc
row_written (a ∷ b ∷ []) w h = absurd cc
row_written (a ∷ b ∷ c ∷ []) w h =
    let parts = all_three_parts (number_in a) (number_in b) (letter_in c) w h in
    let p = number_text a w.entry parts.entry in
    let q = number_text b w.exit parts.exit in
    let r = letter_text c w.class parts.class in
    record {
      entry_short = number_short a w.entry parts.entry;
      exit_short = number_short b w.exit parts.exit;
      text = rw (p, q, r);
    }
row_written (a ∷ b ∷ c ∷ d ∷ ds) w h = absurd cc

pub words_written : (line : List ℕ) (w : RouteWords) → line_words line ≡ Some w → Written line w.entry w.exit w.class
words_written line w h =
    let e = row_written (pieces 32 line) w h in
    record { entry_short = e.entry_short; exit_short = e.exit_short; text = sym (joined-pieces 32 line) ∙ e.text }

-- a text is cut into the words that it was written of
text-pieces : (entry exit : ℕ) (class : Class) → entry < 100000 → exit < 100000 → pieces 32 (fields_text entry exit class) ≡ decimal entry ∷ decimal exit ∷ (class_letter class ∷ []) ∷ []
text-pieces entry exit class h k =
    pieces-before 32 (decimal entry) _ (decimal_lacks entry h) ∙ ap (λ ps. decimal entry ∷ ps) (pieces-before 32 (decimal exit) _ (decimal_lacks exit k) ∙ ap (λ ps. decimal exit ∷ ps) (pieces_alone 32 (class_letter class ∷ []) (letter_lacks class)))

pub written_words : (line : List ℕ) (entry exit : ℕ) (class : Class) → Written line entry exit class → line_words line ≡ Some (record { entry = entry; exit = exit; class = class })
written_words line entry exit class w =
    let p = number_back entry w.entry_short in
    let q = number_back exit w.exit_short in
    let r = letter_back class in
    ap line_words w.text ∙ ap row_words (text-pieces entry exit class w.entry_short w.exit_short) ∙ rw (p, q, r)
