-- A rule fits whatever a rule fits that it hides.
use Rattle.std.proofs.Common.{◌≡◌, ◌≤◌, ℕ, ◌+◌, ◌-◌, ◌^◌, ◌/◌, Bool, true, false, List, [], ◌∷◌, ◌++◌, length, drop, Option, Some, None, refl, sym, ap, ◌∙◌, append_assoc, eqb-true, arith}
use Rattle.std.specs.Prelude.{◌&&◌, ◌||◌, ◌==◌, not, nat_eq, nat_le}
use Rattle.std.specs.List.{list_all, list_any, starts_with}
use Rattle.std.proofs.Math.Nat.{div-div-eq-div-mul}
use Rattle.std.proofs.lemmas.Bool.{eq-eqb, leb-true, and_from}
use Rattle.std.proofs.lemmas.Bool.Decides.{Decides-eqb}
use Rattle.std.proofs.lemmas.Nat.{pow-add}
use Rattle.std.proofs.lemmas.Slice.Eq.{starts_is}
use Rattle.slp_text.specs.Words.{bytes_eq}
use Rattle.slp_text.proofs.KeySets.{bytes_same}
use Rattle.slp_text.specs.Ascii.{colon}
use Rattle.service_url.specs.Types.{covers, is_abstract}
use Rattle.service_url.proofs.Roots.{begins}
use Rattle.access_rules.specs.Deciding.{Deed, action_eq, is_own, allows_kind, allows_scope, fits}
use Rattle.addresses.specs.Addresses.{has_address}
use Rattle.access_rules.specs.declared.rule.Action.{Action}
use Rattle.access_rules.specs.declared.rule.Action.TheVariants.{Register, Withdraw, See}
use Rattle.addresses.specs.declared.prefix.Prefix.{Prefix}
use Rattle.access_rules.specs.declared.rule.Rule.{Rule}
use Rattle.site_check.specs.Hiding.{hides, hides_kind, hides_scopes, is_inside}

-- ---- tests of two

first_of : (x y : Bool) → (x && y) ≡ true → x ≡ true
first_of true y h = refl
first_of false y h = h

second_of : (x y : Bool) → (x && y) ≡ true → y ≡ true
second_of true y h = h
second_of false y h = absurd (let e : true ≡ false = sym h in cc)

one_of : (x y : Bool) (goal : Bool) → (x ≡ true → goal ≡ true) → (y ≡ true → goal ≡ true) → (x || y) ≡ true → goal ≡ true
one_of true y goal f g h = f refl
one_of false y goal f g h = g h

or_second : (x y : Bool) → y ≡ true → (x || y) ≡ true
or_second true y h = refl
or_second false y h = h

-- ---- lists

-- what passes for some, where all pass something else
some_of_all : {X : Type 0} (p q : X → Bool) (goal : Bool) → ((x : X) → p x ≡ true → q x ≡ true → goal ≡ true) → (xs : List X) → list_all p xs ≡ true → list_any q xs ≡ true → goal ≡ true
some_of_all p q goal f [] all any = absurd (let e : true ≡ false = sym any in cc)
some_of_all p q goal f (x ∷ xs) all any =
    one_of (q x) (list_any q xs) goal (f x (first_of (p x) (list_all p xs) all)) (some_of_all p q goal f xs (second_of (p x) (list_all p xs) all)) any

some_more : {X : Type 0} (p q : X → Bool) → ((x : X) → p x ≡ true → q x ≡ true) → (xs : List X) → list_any p xs ≡ true → list_any q xs ≡ true
some_more p q f [] h = h
some_more p q f (x ∷ xs) h =
    one_of (p x) (list_any p xs) (list_any q (x ∷ xs)) (λ t. ap (λ b. b || list_any q xs) (f x t)) (λ t. or_second (q x) (list_any q xs) (some_more p q f xs t)) h

-- ---- prefixes

-- numbers with the same front have the same shorter one
same_front : (a b i j : ℕ) → a / 2 ^ i ≡ b / 2 ^ i → a / 2 ^ (i + j) ≡ b / 2 ^ (i + j)
same_front a b i j h =
    ap (λ n. a / n) (pow-add 2 i j) ∙ sym (div-div-eq-div-mul a (2 ^ i) (2 ^ j)) ∙ ap (λ n. n / 2 ^ j) h ∙ div-div-eq-div-mul b (2 ^ i) (2 ^ j) ∙ ap (λ n. b / n) (sym (pow-add 2 i j))

inside_holds : (p q : Prefix) (a : ℕ) → is_inside p q ≡ true → has_address p a ≡ true → has_address q a ≡ true
inside_holds p q a inside held =
    let more : q.bits ≤ p.bits = leb-true q.bits p.bits (first_of (nat_le q.bits p.bits) (has_address q p.addr) inside) in
    let first = second_of (nat_le q.bits p.bits) (has_address q p.addr) inside in
    let q_front = eqb-true (q.addr / 2 ^ (32 - q.bits)) (p.addr / 2 ^ (32 - q.bits)) (second_of (nat_le q.bits 32) (q.addr / 2 ^ (32 - q.bits) == p.addr / 2 ^ (32 - q.bits)) first) in
    let p_few : p.bits ≤ 32 = leb-true p.bits 32 (first_of (nat_le p.bits 32) (p.addr / 2 ^ (32 - p.bits) == a / 2 ^ (32 - p.bits)) held) in
    let p_front = eqb-true (p.addr / 2 ^ (32 - p.bits)) (a / 2 ^ (32 - p.bits)) (second_of (nat_le p.bits 32) (p.addr / 2 ^ (32 - p.bits) == a / 2 ^ (32 - p.bits)) held) in
    let apart : 32 - p.bits + (p.bits - q.bits) ≡ 32 - q.bits = omega (arith, more, p_few) in
    let shorter : p.addr / 2 ^ (32 - q.bits) ≡ a / 2 ^ (32 - q.bits) = rw apart at (same_front p.addr a (32 - p.bits) (p.bits - q.bits) p_front) in
    and_from (nat_le q.bits 32) (q.addr / 2 ^ (32 - q.bits) == a / 2 ^ (32 - q.bits))
    (first_of (nat_le q.bits 32) (q.addr / 2 ^ (32 - q.bits) == p.addr / 2 ^ (32 - q.bits)) first)
    (eq-eqb (q.addr / 2 ^ (32 - q.bits)) (a / 2 ^ (32 - q.bits)) (q_front ∙ shorter))

asker_kept : (wide narrow : List Prefix) (a : ℕ) → list_all (λ p. list_any (is_inside p) wide) narrow ≡ true → list_any (λ p. has_address p a) narrow ≡ true → list_any (λ p. has_address p a) wide ≡ true
asker_kept wide narrow a all any =
    some_of_all (λ (p : Prefix). list_any (is_inside p) wide) (λ (p : Prefix). has_address p a) (list_any (λ (p : Prefix). has_address p a) wide)
    (λ p inside held. some_more (is_inside p) (λ (q : Prefix). has_address q a) (λ q h. inside_holds p q a h held) wide inside) narrow all any

-- ---- actions, types and scopes

action_kept : (a b c : Action) → action_eq a b ≡ true → action_eq b c ≡ true → action_eq a c ≡ true
action_kept Register Register c h k = k
action_kept Withdraw Withdraw c h k = k
action_kept See See c h k = k
action_kept Register Withdraw c h k = absurd (let e : true ≡ false = sym h in cc)
action_kept Register See c h k = absurd (let e : true ≡ false = sym h in cc)
action_kept Withdraw Register c h k = absurd (let e : true ≡ false = sym h in cc)
action_kept Withdraw See c h k = absurd (let e : true ≡ false = sym h in cc)
action_kept See Register c h k = absurd (let e : true ≡ false = sym h in cc)
action_kept See Withdraw c h k = absurd (let e : true ≡ false = sym h in cc)

-- a text begins with what its beginning begins with
begins_on : (a b c : List ℕ) → starts_with nat_eq b a ≡ true → starts_with nat_eq c b ≡ true → starts_with nat_eq c a ≡ true
begins_on a b c h k =
    (starts_is Decides-eqb c a (starts_with nat_eq c a) refl).1 (drop (length a) b ++ drop (length b) c)
    (begins c b k ∙ ap (λ (x : List ℕ). x ++ drop (length b) c) (begins b a h) ∙ append_assoc a (drop (length a) b) (drop (length b) c))

begins_before : (b c : List ℕ) (x : ℕ) → starts_with nat_eq c (b ++ x ∷ []) ≡ true → starts_with nat_eq c b ≡ true
begins_before b c x h =
    (starts_is Decides-eqb c b (starts_with nat_eq c b) refl).1 (x ∷ drop (length (b ++ x ∷ [])) c) (begins c (b ++ x ∷ []) h ∙ append_assoc b (x ∷ []) (drop (length (b ++ x ∷ [])) c))

-- covering goes on
covers_on : (a b c : List ℕ) → covers a b ≡ true → covers b c ≡ true → covers a c ≡ true
covers_on a b c h k =
    one_of (bytes_eq a b) (is_abstract a && starts_with nat_eq b (a ++ colon ∷ [])) (covers a c)
    (λ same. rw (bytes_same a b same) k)
    (λ made. one_of (bytes_eq b c) (is_abstract b && starts_with nat_eq c (b ++ colon ∷ [])) (covers a c)
    (λ same. rw (sym (bytes_same b c same)) h)
    (λ then. or_second (bytes_eq a c) (is_abstract a && starts_with nat_eq c (a ++ colon ∷ []))
    (and_from (is_abstract a) (starts_with nat_eq c (a ++ colon ∷ [])) (first_of (is_abstract a) (starts_with nat_eq b (a ++ colon ∷ [])) made)
    (begins_on (a ++ colon ∷ []) b c (second_of (is_abstract a) (starts_with nat_eq b (a ++ colon ∷ [])) made)
    (begins_before b c colon (second_of (is_abstract b) (starts_with nat_eq c (b ++ colon ∷ [])) then))))) k) h

kind_kept : (wide narrow : Option (List ℕ)) (kind : List ℕ) → hides_kind wide narrow ≡ true → allows_kind narrow kind ≡ true → allows_kind wide kind ≡ true
kind_kept None narrow kind h k = refl
kind_kept (Some w) None kind h k = absurd (let e : true ≡ false = sym h in cc)
kind_kept (Some w) (Some n) kind h k = covers_on w n kind h k

scope_kept : (wide narrow : Option (List (List ℕ))) (scope : List ℕ) → hides_scopes wide narrow ≡ true → allows_scope narrow scope ≡ true → allows_scope wide scope ≡ true
scope_kept None narrow scope h k = refl
scope_kept (Some w) None scope h k = absurd (let e : true ≡ false = sym h in cc)
scope_kept (Some w) (Some n) scope h k =
    some_of_all (λ (s : List ℕ). list_any (λ (k : List ℕ). bytes_eq k s) w) (λ (s : List ℕ). bytes_eq s scope) (list_any (λ (k : List ℕ). bytes_eq k scope) w)
    (λ s has same. rw (bytes_same s scope same) at has) n h k

-- ---- rules

owner_kept : (wide narrow own : Bool) → (not wide || narrow) ≡ true → (not narrow || own) ≡ true → (not wide || own) ≡ true
owner_kept false narrow own h k = refl
owner_kept true true own h k = k
owner_kept true false own h k = absurd (let e : true ≡ false = sym h in cc)

pub fits_too : (wide narrow : Rule) → hides wide narrow ≡ true → (d : Deed) (scope : List ℕ) → fits d scope narrow ≡ true → fits d scope wide ≡ true
fits_too wide narrow h d scope fit =
    let four = first_of _ (not narrow.owner || is_own d) fit in
    let three = first_of _ (allows_scope narrow.scopes scope) four in
    let two = first_of _ (allows_kind narrow.kind d.kind) three in
    let hidden_four = first_of _ (not wide.owner || narrow.owner) h in
    let hidden_three = first_of _ (hides_scopes wide.scopes narrow.scopes) hidden_four in
    let hidden_two = first_of _ (hides_kind wide.kind narrow.kind) hidden_three in
    and_from _ _ (and_from _ _ (and_from _ _ (and_from _ _
    (asker_kept wide.from narrow.from d.asker (second_of (action_eq wide.action narrow.action) _ hidden_two) (first_of _ (action_eq narrow.action d.action) two))
    (action_kept wide.action narrow.action d.action (first_of _ (list_all (λ (p : Prefix). list_any (is_inside p) wide.from) narrow.from) hidden_two)
    (second_of (list_any (λ (p : Prefix). has_address p d.asker) narrow.from) _ two)))
    (kind_kept wide.kind narrow.kind d.kind (second_of _ (hides_kind wide.kind narrow.kind) hidden_three) (second_of _ (allows_kind narrow.kind d.kind) three)))
    (scope_kept wide.scopes narrow.scopes scope (second_of _ (hides_scopes wide.scopes narrow.scopes) hidden_four) (second_of _ (allows_scope narrow.scopes scope) four)))
    (owner_kept wide.owner narrow.owner (is_own d) (second_of _ (not wide.owner || narrow.owner) h) (second_of _ (not narrow.owner || is_own d) fit))
