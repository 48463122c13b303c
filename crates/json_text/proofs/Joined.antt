-- Texts that are added one after the other.
use Rattle.std.proofs.Common.{◌≡◌, ℕ, List, ◌++◌, ap, ◌∙◌, append_assoc}

pub two_more : (o a b x y : List ℕ) → x ≡ o ++ a → y ≡ x ++ b → y ≡ o ++ (a ++ b)
two_more o a b x y p q = q ∙ (ap (λ l. l ++ b) p ∙ append_assoc o a b)

pub three_more : (o a b c x y z : List ℕ) → x ≡ o ++ a → y ≡ x ++ b → z ≡ y ++ c → z ≡ o ++ ((a ++ b) ++ c)
three_more o a b c x y z p q r = two_more o (a ++ b) c y z (two_more o a b x y p q) r

pub four_more : (o a b c d x y z w : List ℕ) → x ≡ o ++ a → y ≡ x ++ b → z ≡ y ++ c → w ≡ z ++ d → w ≡ o ++ (((a ++ b) ++ c) ++ d)
four_more o a b c d x y z w p q r s = two_more o ((a ++ b) ++ c) d z w (three_more o a b c x y z p q r) s

pub five_more : (o a b c d e x y z w v : List ℕ) → x ≡ o ++ a → y ≡ x ++ b → z ≡ y ++ c → w ≡ z ++ d → v ≡ w ++ e → v ≡ o ++ ((((a ++ b) ++ c) ++ d) ++ e)
five_more o a b c d e x y z w v p q r s t = two_more o (((a ++ b) ++ c) ++ d) e w v (four_more o a b c d x y z w p q r s) t
