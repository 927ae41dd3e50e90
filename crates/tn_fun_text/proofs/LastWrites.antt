-- What is there after a last call that writes.
use Rattle.std.proofs.Common.{◌≡◌, ◌∙◌, ℕ, if◌then◌else◌, List, ◌++◌, Result, Ok, Err, ap, append_assoc}
use Rattle.std.specs.Result.{is_ok, OnOk}

pub on_extended : {T E : Type 0} (r : Result T E) (c d v z : List ℕ) → d ≡ (if is_ok r then c ++ v else c) → c ++ v ≡ z → OnOk r (d ≡ z)
on_extended (Ok x) c d v z wrote whole = wrote ∙ whole
on_extended (Err e) c d v z wrote whole = tt

pub on_last : {T E : Type 0} (r : Result T E) (c d v z : List ℕ) → OnOk r (d ≡ c ++ v) → c ++ v ≡ z → OnOk r (d ≡ z)
on_last (Ok x) c d v z wrote whole = wrote ∙ whole
on_last (Err e) c d v z wrote whole = tt

three_parts : (o a u v : List ℕ) → ((o ++ a) ++ u) ++ v ≡ o ++ (a ++ u ++ v)
three_parts o a u v = simp append_assoc

-- three parts
pub three_wrote : (o a u v b d : List ℕ) → b ≡ o ++ a → d ≡ b ++ u → d ++ v ≡ o ++ (a ++ u ++ v)
three_wrote o a u v b d first second = ap (λ x. x ++ v) (second ∙ ap (λ x. x ++ u) first) ∙ three_parts o a u v

four_parts : (o a u v x : List ℕ) → (((o ++ a) ++ u) ++ v) ++ x ≡ o ++ (a ++ u ++ v ++ x)
four_parts o a u v x = simp append_assoc

-- four parts
pub four_wrote : (o a u v x b d e : List ℕ) → b ≡ o ++ a → d ≡ b ++ u → e ≡ d ++ v → e ++ x ≡ o ++ (a ++ u ++ v ++ x)
four_wrote o a u v x b d e first second third = ap (λ y. y ++ x) (third ∙ ap (λ y. y ++ v) (second ∙ ap (λ y. y ++ u) first)) ∙ four_parts o a u v x

line_parts : (o a n s p t r : List ℕ) → (((((o ++ a) ++ n) ++ s) ++ p) ++ t) ++ r ≡ o ++ (a ++ n ++ s ++ p ++ t ++ r)
line_parts o a n s p t r = simp append_assoc

-- the parts of a line
pub line_wrote : (o a n s p t r b c d e : List ℕ) → b ≡ (o ++ a) ++ n → c ≡ b ++ s → d ≡ c ++ p → e ≡ d ++ t → e ++ r ≡ o ++ (a ++ n ++ s ++ p ++ t ++ r)
line_wrote o a n s p t r b c d e one two three four =
    ap (λ x. x ++ r) (four ∙ ap (λ x. x ++ t) (three ∙ ap (λ x. x ++ p) (two ∙ ap (λ x. x ++ s) one))) ∙ line_parts o a n s p t r
