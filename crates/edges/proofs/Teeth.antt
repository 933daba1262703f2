-- Each shortcut computed in its run, and held against the law that it breaks.
use Rattle.std.proofs.Common.{◌≡◌, ℕ, ◌+◌, true, false, eqb, length, Some, None, Option, sym, refl, ap, ◌∙◌, true≢false, arith}
use Rattle.keys.specs.declared.class.Class.TheVariants.{M, S}
use Rattle.keys.specs.declared.route.Route.{Route}
use Rattle.tallies.specs.declared.number.Number.{Number}
use Rattle.requests.specs.declared.answer.Answer.{Answer}
use Rattle.requests.specs.declared.answer.Answer.TheVariants.{Changed, Unchanged, Present, Absent, Counted}
use Rattle.requests.specs.declared.request.Request.{Request}
use Rattle.requests.specs.declared.request.Request.TheVariants.{Enter, LookUp, Count}
use Rattle.rules.specs.Plain.{answered, set_before}
use Rattle.rules.specs.States.{State}
use Rattle.rules.specs.Queues.{numbered, finished, final_answer}
use Rattle.rules.specs.Calls.{run}
use Rattle.rules.specs.Laws.{AnswersArePlain}
use Rattle.edges.specs.Tables.{calls_in}
use Rattle.edges.specs.Worked.{routes_by_number, route}
use Rattle.edges.specs.Waiting.{waiting}
use Rattle.edges.specs.Forking.{forking}
use Rattle.edges.specs.Cases.{help_twice, twice}
use Rattle.edges.specs.Shortcuts.{slots_alone, first_match, blind, tally_last, no_count}
use Rattle.edges.specs.Teeth.{reached, moved_twice_counted, weightless, SlotsAloneBreak, FirstMatchBreaks, BlindListingBreaks, BlindCountBreaks, FirstComerDiffers, TallyLastBreaks, AlwaysLateBreaks, NoCountBreaks, WeightlessMiscounts, UncomparedUnlawful}

-- the number by which an answer is told from others; counts have those from 5 on
abbrev told : Option (Answer Number) → ℕ
told None = 0
told (Some Changed) = 1
told (Some Unchanged) = 2
told (Some Present) = 3
told (Some Absent) = 4
told (Some (Counted tally)) = 5 + tally.value

-- finished request t bears one answer there, told by a, and the plain set gives another, told by b
breaks : (s : State Route Number) (t : ℕ) (r : Request Route) (a b : ℕ) → numbered s.requests t ≡ Some r → finished s t ≡ true
    → told (final_answer s t) ≡ a → told (Some (answered routes_by_number r (set_before routes_by_number s.requests t))) ≡ b
    → eqb a b ≡ false → AnswersArePlain routes_by_number s → ⊥
breaks s t r a b is-r ends bears plain apart law =
    let same : a ≡ b = sym bears ∙ ap told (law t r is-r ends) ∙ plain in
    absurd (grind arith)

pub slots_alone_break : SlotsAloneBreak
slots_alone_break =
    (refl, breaks (reached slots_alone (calls_in waiting)) 4 (LookUp (route 20 30 M)) 4 3 refl refl refl refl refl)

pub first_match_breaks : FirstMatchBreaks
first_match_breaks =
    (refl, breaks (reached first_match (calls_in waiting)) 6 (LookUp (route 20 30 M)) 3 4 refl refl refl refl refl)

pub blind_count_breaks : BlindCountBreaks
blind_count_breaks = (
  refl,
  breaks (reached blind moved_twice_counted) 2 (Count (route 10 14 M) (route 12 14 S)) 7 6 refl refl refl refl refl,
)

pub tally_last_breaks : TallyLastBreaks
tally_last_breaks = (
  refl,
  breaks (reached tally_last (calls_in forking)) 7 (Count (route 7 1 M) (route 25 1 M)) 8 7 refl refl refl refl refl,
)

pub no_count_breaks : NoCountBreaks
no_count_breaks = (
  refl,
  breaks (reached no_count (twice (route 12 14 M))) 3 (Count (route 12 14 M) (route 12 14 M)) 5 6
      refl refl refl refl refl,
)

-- the listing has two routes, and the plain set one
pub blind_listing_breaks : BlindListingBreaks
blind_listing_breaks = (
  refl,
  λ law.
      let longer : ◌≡◌ {A = ℕ} 2 1 = ap length (law refl).0 in
      absurd (omega arith),
)

pub first_comer_differs : FirstComerDiffers
first_comer_differs = (refl, refl)

-- four turns of station 2, each a follow or a carry, as many as suffice
pub always_late_breaks : AlwaysLateBreaks
always_late_breaks = (
  refl,
  λ law.
      true≢false
      (sym (law 2 1 (Enter (route 12 14 M)) (help_twice 2 1) refl refl refl ((λ _. refl), ((λ _. refl), ((λ _. refl), ((λ _. refl), tt)))) (omega arith))),
)

-- what weighs nothing is joined by the same laws; the count is zero, and there is a key
pub weightless_miscounts : WeightlessMiscounts
weightless_miscounts = (
  (λ law. record {
    reflexive = law.reflexive;
    total = law.total;
    transitive = law.transitive;
    antisymmetric = law.antisymmetric;
    associative = law.associative;
    commutative = law.commutative;
    neutral = law.neutral;
    cancelling = law.cancelling;
  }),
  refl,
  refl,
  breaks (run weightless 64 (twice (route 12 14 M))) 3 (Count (route 12 14 M) (route 12 14 M)) 5 6 refl refl refl refl refl,
)

-- no order makes 10 14 M and 12 14 M one route
two-routes : route 10 14 M ≡ route 12 14 M → ⊥
two-routes e =
    let entries : ◌≡◌ {A = ℕ} 10 12 = ap (λ x. x.entry) e in
    absurd (omega arith)

pub uncompared_unlawful : UncomparedUnlawful
uncompared_unlawful = (
  (λ law. two-routes (law (route 10 14 M) (route 12 14 M) refl refl)),
  (λ law. two-routes (law.antisymmetric (route 10 14 M) (route 12 14 M) refl refl)),
)
