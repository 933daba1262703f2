-- Parts of the cell of a number: what is read there. Assumes nothing.
use Rattle.std.proofs.Common.{◌≡◌, ℕ, zero, suc, ◌<◌, List, [], ◌∷◌, map, length, get_or, Some, None, Option, Bor, sym, refl, ap, ◌∙◌, arith}
use Rattle.std.specs.Option.{option_map}
use Rattle.rules.specs.Queues.{numbered}
use Rattle.cells.proofs.Numbers.{numbered-map}

pub numbered_get : {X : Type 0} (xs : List X) (i : ℕ) (d : X) → i < length xs → numbered xs (suc i) ≡ Some (get_or xs i d)
numbered_get [] i d h = absurd (omega arith)
numbered_get (x ∷ xs) zero d h = refl
numbered_get (x ∷ xs) (suc i) d h = numbered_get xs i d (omega arith)

-- a part of the entry that was found, or what stands for none
pub part_found : {X Y : Type 0} (f : X → Y) (none : Y) (r : Option (Bor X)) (o : Option X) → option_map (λ x. x.now) r ≡ o → elim r as (λ _. Y) [ None ↦ none | Some x ↦ f x.now ] ≡ elim o as (λ _. Y) [ None ↦ none | Some x ↦ f x ]
part_found {X = X} {Y = Y} f none r o e = by r ∙ ap (λ v. elim v as (λ _. Y) [ None ↦ none | Some x ↦ f x ]) e
  where
    by : (r : Option (Bor X)) → elim r as (λ _. Y) [ None ↦ none | Some x ↦ f x.now ] ≡ elim (option_map (λ x. x.now) r) as (λ _. Y) [ None ↦ none | Some x ↦ f x ]
    by None = refl
    by (Some x) = refl

-- the same of a row of parts
pub row_none : {X Y : Type 0} (f : X → Y) (xs : List X) (t : ℕ) → numbered xs t ≡ None → None ≡ numbered (map f xs) t
row_none f xs t e = ap (option_map f) (sym e) ∙ sym (numbered-map f xs t)

pub row_some : {X Y : Type 0} (f : X → Y) (xs : List X) (t : ℕ) (x : X) → numbered xs t ≡ Some x → Some (f x) ≡ numbered (map f xs) t
row_some f xs t x e = ap (option_map f) (sym e) ∙ sym (numbered-map f xs t)

pub part_some : {X Y : Type 0} (f : X → Y) (none : Y) (o : Option X) (x : X) → o ≡ Some x → f x ≡ elim o as (λ _. Y) [ None ↦ none | Some c ↦ f c ]
part_some {Y = Y} f none o x e = ap (λ v. elim v as (λ _. Y) [ None ↦ none | Some c ↦ f c ]) (sym e)
