-- Lists that grow at their end.
use Rattle.std.proofs.Common.{◌≡◌, ℕ, List, ◌++◌, ap, ◌∙◌, append_assoc}

pub three_more : (old one two three a b c : List ℕ) → one ≡ old ++ a → two ≡ one ++ b → three ≡ two ++ c → three ≡ old ++ (a ++ (b ++ c))
three_more old one two three a b c p q r =
    r ∙ ap (λ (k : List ℕ). k ++ c) (q ∙ ap (λ (k : List ℕ). k ++ b) p) ∙ append_assoc (old ++ a) b c ∙ append_assoc old a (b ++ c)
