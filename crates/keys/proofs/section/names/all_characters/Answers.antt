-- The test at each byte is the definition's.
use Rattle.std.proofs.Common.{rules, refl}
use Rattle.std.proofs.lemmas.List.Recursion.{and_is}
use Rattle.keys.specs.Names.{is_character, all_characters}
use Rattle.keys.proofs.section.names.all_characters.Goals as goal

pub returns : goal.returns
returns c = and_is all_characters is_character refl (λ _ _. refl) c.args.name.now 0 c.all.result (λ h. search rules) (λ h. search rules)
