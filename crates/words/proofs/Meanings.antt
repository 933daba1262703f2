-- What is read of a line is what it means. Rests on Rows.
use Rattle.std.proofs.Common.{◌≡◌, ℕ, Bool, true, false, List, Some, None, Option, Result, sym, refl, subst, inl, inr, arith}
use Rattle.keys.specs.declared.refusal.Refusal.{Refusal}
use Rattle.keys.specs.declared.route.Route.{Route}
use Rattle.keys.specs.Ranges.{is_signal, nearest_signal}
use Rattle.words.specs.declared.routes.RouteWords.{RouteWords}
use Rattle.words.specs.Lines.{line_words, line_route}
use Rattle.words.specs.Meaning.{Reads}
use Rattle.words.proofs.Rows.{words_written, written_words}

signal_kept : (n : ℕ) → is_signal n ≡ true → nearest_signal n ≡ n
signal_kept n h = grind arith

pub reads-line : (line : List ℕ) → Reads line (line_route line)
reads-line line = go (line_words line) refl
  where
    go : (words : Option RouteWords) → line_words line ≡ words → Reads line (line_route line)
    go None e =
        rw e (inr (refl, λ entry exit class w. let f = written_words line entry exit class w in absurd cc))
    go (Some w) e = by (is_signal w.entry) (is_signal w.exit) refl refl
      where
        by : (a b : Bool) → is_signal w.entry ≡ a → is_signal w.exit ≡ b → Reads line (line_route line)
        by true true p q =
            let s = signal_kept w.entry p in
            let t = signal_kept w.exit q in
            rw (e, p, q, s, t) (words_written line w e).text
        by true false p q =
            rw (e, p, q) (inl (refl, record { entry = w.entry; exit = w.exit; class = w.class; written = words_written line w e; refused = rw (p, q) }))
        by false b p q =
            rw (e, p) (inl (refl, record { entry = w.entry; exit = w.exit; class = w.class; written = words_written line w e; refused = rw p }))

-- the same of an answer that is known to be what the line is
pub reads-answer : (line : List ℕ) (r : Result Route Refusal) → r ≡ line_route line → Reads line r
reads-answer line r e = subst (Reads line) (sym e) (reads-line line)
