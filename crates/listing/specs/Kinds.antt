-- The words that name kinds, and which kinds go together.
use Rattle.std.specs.Prelude.{◌≡◌, ◌≢◌, ℕ, List, IsSomeAnd, None, codes, MatchResult, Option, Result}
use Rattle.stored.specs.AreaBytes.{area_form}
use Rattle.stored.specs.NumberBytes.{number_form, classes_form}
use Rattle.stored.specs.PairBytes.{pair_form}
use Rattle.stored.specs.RouteBytes.{route_form}
use Rattle.stored.specs.SectionBytes.{section_form}
use Rattle.listing.specs.declared.kinds.KeyKind.{KeyKind}
use Rattle.listing.specs.declared.kinds.KeyKind.TheVariants.{Routes, Sections, AreaRoutes, AreaSections}
use Rattle.listing.specs.declared.kinds.TallyKind.{TallyKind}
use Rattle.listing.specs.declared.kinds.TallyKind.TheVariants.{Numbers, ByClass, NumbersByClass}
use Rattle.keys.specs.KeyTexts.{route_text, section_text, area_text}
use Rattle.tallies.specs.TallyTexts.{number_text, classes_text, pair_text}
use Rattle.listing.specs.declared.unknown.UnknownKind.{UnknownKind}
use Rattle.listing.specs.declared.unknown.UnknownKind.TheVariants as unknown
use Rattle.listing.specs.Reports.{Printing}

abbrev pub key_word : KeyKind → List ℕ
key_word Routes = codes "route"
key_word Sections = codes "section"
key_word AreaRoutes = codes "area-route"
key_word AreaSections = codes "area-section"

abbrev pub tally_word : TallyKind → List ℕ
tally_word Numbers = codes "number"
tally_word ByClass = codes "classes"
tally_word NumbersByClass = codes "number+classes"

-- the kind of a word, or that no kind has it
abbrev pub KeyKindOfWord : List ℕ → Result KeyKind UnknownKind → Type 0
KeyKindOfWord word result = MatchResult result (λ k. key_word k ≡ word) (λ e. (e ≡ unknown.Keys) × ((k : KeyKind) → key_word k ≢ word))

abbrev pub TallyKindOfWord : List ℕ → Result TallyKind UnknownKind → Type 0
TallyKindOfWord word result = MatchResult result (λ k. tally_word k ≡ word) (λ e. (e ≡ unknown.Tallies) × ((k : TallyKind) → tally_word k ≢ word))

-- what is printed for two kinds; nothing where the tallies are not of such keys
abbrev pub Listed : {X E : Type 0} → (X → List ℕ) → KeyKind → TallyKind → List ℕ → Option (Result X E) → Type 0
Listed spelled Routes Numbers bytes r = IsSomeAnd r (Printing spelled route_form number_form route_text number_text bytes)
Listed spelled Routes ByClass bytes r = IsSomeAnd r (Printing spelled route_form classes_form route_text classes_text bytes)
Listed spelled Routes NumbersByClass bytes r = IsSomeAnd r (Printing spelled route_form (pair_form number_form classes_form) route_text (pair_text number_text classes_text) bytes)
Listed spelled Sections Numbers bytes r = IsSomeAnd r (Printing spelled section_form number_form section_text number_text bytes)
Listed spelled Sections ByClass bytes r = r ≡ None
Listed spelled Sections NumbersByClass bytes r = r ≡ None
Listed spelled AreaRoutes Numbers bytes r = IsSomeAnd r (Printing spelled (area_form route_form) number_form (area_text route_text) number_text bytes)
Listed spelled AreaRoutes ByClass bytes r = r ≡ None
Listed spelled AreaRoutes NumbersByClass bytes r = r ≡ None
Listed spelled AreaSections Numbers bytes r = IsSomeAnd r (Printing spelled (area_form section_form) number_form (area_text section_text) number_text bytes)
Listed spelled AreaSections ByClass bytes r = r ≡ None
Listed spelled AreaSections NumbersByClass bytes r = r ≡ None
