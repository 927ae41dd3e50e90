-- Members of a row of JSON that are written one after the other.
use Rattle.std.proofs.Common.{◌≡◌, ◌∙◌, List, [], ◌∷◌, ◌++◌, ap, append_assoc}
use Rattle.json.specs.Print.{print}
use Rattle.json.specs.Token.{Token, begin_object, end_object}
use Rattle.json.specs.Written.{Written}
use Rattle.tn_formats.specs.Tokens.{GainsTokens}

three_parts : (a b d e : List Token) → (((begin_object ∷ a) ++ b) ++ d) ++ e ≡ begin_object ∷ (a ++ (b ++ (d ++ e)))
three_parts a b d e = simp append_assoc

-- an object that was begun, and gained three parts
pub three_written : (w0 w1 w2 w3 : Written) (a b d : List Token) → w0.before ≡ [] → w0.tokens ≡ begin_object ∷ [] → GainsTokens w0 w1 a → GainsTokens w1 w2 b → GainsTokens w2 w3 d
    → w3.before ++ print (w3.tokens ++ end_object ∷ []) ≡ print (begin_object ∷ (a ++ (b ++ (d ++ end_object ∷ []))))
three_written w0 w1 w2 w3 a b d empty begun p q r =
    let before = r.before ∙ q.before ∙ p.before ∙ empty in
    let tokens = r.tokens ∙ ap (λ l. l ++ d) (q.tokens ∙ ap (λ l. l ++ b) (p.tokens ∙ ap (λ l. l ++ a) begun)) in
    ap (λ l. l ++ print (w3.tokens ++ end_object ∷ [])) before ∙ ap (λ l. print (l ++ end_object ∷ [])) tokens ∙ ap print (three_parts a b d (end_object ∷ []))
