-- Keys as people read them.
use Rattle.std.specs.Prelude.{ℕ, List, [], ◌∷◌, ◌++◌, codes, decimal}
use Rattle.keys.specs.declared.area.Area.{Area}
use Rattle.keys.specs.declared.route.Route.{Route}
use Rattle.keys.specs.declared.section.Section.{Section}
use Rattle.keys.specs.Classes.{class_letter}
use Rattle.keys.specs.Names.{name_in}

-- entry, exit and the class's letter
abbrev pub route_text : Route → List ℕ
route_text k = decimal k.entry ++ (codes " " ++ (decimal k.exit ++ (codes " " ++ (class_letter k.class ∷ []))))

-- the name
abbrev pub section_text : Section → List ℕ
section_text k = name_in k.bytes

-- the area's number, and the key below
abbrev pub area_text : {K : Type 0} → (K → List ℕ) → Area K → List ℕ
area_text below a = decimal a.number ++ (codes " " ++ below a.key)
