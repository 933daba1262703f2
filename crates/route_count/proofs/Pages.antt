-- Texts put together: the totals, and one refused line after another. Assumes nothing.
use Rattle.std.proofs.Common.{◌≡◌, ℕ, List, ◌++◌, codes, decimal, sym, ap, ◌∙◌, append_assoc}
use Rattle.route_count.specs.Reports.{newline, counted_line, totals_of}

counted_line_on : (name rest : List ℕ) (number : ℕ) → counted_line name number ++ rest ≡ name ++ (decimal number ++ (newline ++ rest))
counted_line_on name rest number = append_assoc name _ rest ∙ ap (λ t. name ++ t) (append_assoc (decimal number) newline rest)

-- the totals as they are written in one go
pub totals_written : (routes m w c s : ℕ) → codes "routes " ++ (decimal routes ++ (codes "\nclass M " ++ (decimal m ++ (codes "\nclass W " ++ (decimal w ++ (codes "\nclass C " ++ (decimal c ++ (codes "\nclass S " ++ (decimal s ++ newline))))))))) ≡ totals_of routes m w c s
totals_written routes m w c s =
    sym (counted_line_on (codes "routes ") _ routes ∙ ap (λ t. codes "routes " ++ (decimal routes ++ (newline ++ t)))
    (counted_line_on (codes "class M ") _ m ∙ ap (λ t. codes "class M " ++ (decimal m ++ (newline ++ t)))
    (counted_line_on (codes "class W ") _ w ∙ ap (λ t. codes "class W " ++ (decimal w ++ (newline ++ t)))
    (counted_line_on (codes "class C ") _ c))))

pub totals_same : (routes m w c s routes' m' w' c' s' : ℕ) → routes ≡ routes' → m ≡ m' → w ≡ w' → c ≡ c' → s ≡ s' → totals_of routes m w c s ≡ totals_of routes' m' w' c' s'
totals_same routes m w c s routes' m' w' c' s' p q r t u = cc
