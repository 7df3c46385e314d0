-- What is left of a folded text after one character of it.
use Rattle.std.proofs.Common.{◌≡◌, ℕ, ◌-◌, ◌<◌, ◌≤◌, List, [], ◌∷◌, ◌++◌, length, get_or, take, drop, sym, ap, ap₂, ◌∙◌, arith, chars, append-nil, true}
use Rattle.std.proofs.lemmas.List.{nil_from_length}
use Rattle.std.specs.Char.{is_ascii, to_ascii_lowercase}
use Rattle.std.proofs.lemmas.Bool.Decides.{nat_tests}
use Rattle.std.proofs.lemmas.List.Elements.{All-nil, All-cons}
use Rattle.ucd_case.specs.CaseFolding.{full_fold, full_folding}
use Rattle.caseless.specs.Caseless.{default_case_fold}
use Rattle.caseless.proofs.CaselessLemmas.{default_case_fold-ascii, default_case_fold-nil, default_case_fold-cons, full_fold-none, full_fold-some, first_and_rest}

pub folded-none : (folding rest : List ℕ) → length folding < 1 → chars rest ≡ [] → folding ++ default_case_fold (chars rest) ≡ []
folded-none folding rest short none = ap₂ (λ q l. q ++ default_case_fold l) (nil_from_length folding (omega arith)) none ∙ default_case_fold-nil

pub folded-same : (folding rest after : List ℕ) (c : ℕ) (table : List ℕ) → length folding < 1 → chars rest ≡ c ∷ chars after → table ≡ full_folding c → length table < 1
    → folding ++ default_case_fold (chars rest) ≡ c ∷ (folding ++ default_case_fold (chars after))
folded-same folding rest after c table short some same none =
    let bare = nil_from_length folding (omega arith) in
    ap₂ (λ q l. q ++ default_case_fold l) bare some ∙ default_case_fold-cons c (chars after) ∙ ap (λ l. l ++ default_case_fold (chars after)) (full_fold-none c table same none)
    ∙ ap (λ q. c ∷ (q ++ default_case_fold (chars after))) (sym bare)

pub folded-other : (folding rest after : List ℕ) (c d : ℕ) (table : List ℕ) → length folding < 1 → chars rest ≡ c ∷ chars after → table ≡ full_folding c → 1 ≤ length table → d ≡ get_or table 0 d
    → folding ++ default_case_fold (chars rest) ≡ d ∷ (take (length table - 1) (drop 1 table) ++ default_case_fold (chars after))
folded-other folding rest after c d table short some same long first =
    ap₂ (λ q l. q ++ default_case_fold l) (nil_from_length folding (omega arith)) some ∙ default_case_fold-cons c (chars after)
    ∙ ap (λ l. l ++ default_case_fold (chars after)) (full_fold-some c table same long ∙ first_and_rest table d long first)

pub ascii-below : (c : ℕ) → is_ascii c ≡ true → c < 128
ascii-below c h = grind (arith, nat_tests)

plain-fold : (c : ℕ) → c < 128 → full_fold c ≡ to_ascii_lowercase c ∷ []
plain-fold c below =
    sym (append-nil (full_fold c)) ∙ ap (λ l. full_fold c ++ l) (sym default_case_fold-nil) ∙ sym (default_case_fold-cons c [])
    ∙ default_case_fold-ascii (c ∷ []) (All-cons (λ d. d < 128) c [] below (All-nil (λ d. d < 128)))

pub folded-plain : (folding rest after : List ℕ) (c : ℕ) → length folding < 1 → chars rest ≡ c ∷ chars after → c < 128
    → folding ++ default_case_fold (chars rest) ≡ to_ascii_lowercase c ∷ (folding ++ default_case_fold (chars after))
folded-plain folding rest after c short some below =
    let bare = nil_from_length folding (omega arith) in
    ap₂ (λ q l. q ++ default_case_fold l) bare some ∙ default_case_fold-cons c (chars after) ∙ ap (λ l. l ++ default_case_fold (chars after)) (plain-fold c below)
    ∙ ap (λ q. to_ascii_lowercase c ∷ (q ++ default_case_fold (chars after))) (sym bare)
