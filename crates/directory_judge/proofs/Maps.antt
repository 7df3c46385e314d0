-- Maps of entries: what passes a test, and how many entries that is.
use Rattle.std.proofs.Common.{◌≡◌, ℕ, zero, suc, ◌+◌, ◌-◌, ◌<◌, ◌≤◌, Bool, true, false, cond, List, [], ◌∷◌, length, Option, Some, None, refl, sym, ap, ◌∙◌, arith}
use Rattle.std.specs.Prelude.{is_some}
use Rattle.std.proofs.lemmas.Option.{none-some, cond_some}
use Rattle.std.specs.Ordering.{eq_by_cmp}
use Rattle.std.specs.Cmp.{eq_by_cmp_equiv}
use Rattle.std.specs.FinMap as fin
use Rattle.registry_core.specs.declared.entry.Entry.{Entry}
use Rattle.registry_core.specs.Entries.{Pair, Entries, pair_cmp, if_kept, passing_entries}
use Rattle.registry_core.proofs.Lists.{pair_total, cmp-pair_eq, pair_eq-true, get-passing_entries}

-- ---- what is kept of an entry that may be there

pub if_kept-some : (p : Entry → Bool) (o : Option Entry) (e : Entry) → if_kept p o ≡ Some e → (o ≡ Some e) × (p e ≡ true)
if_kept-some p None e h = absurd (none-some _ h)
if_kept-some p (Some x) e h = let k = cond_some (p x) x e h in (ap Some k.1, ap p (sym k.1) ∙ k.0)

pub some-if_kept : (p : Entry → Bool) (o : Option Entry) (e : Entry) → o ≡ Some e → p e ≡ true → if_kept p o ≡ Some e
some-if_kept p o e is t = ap (if_kept p) is ∙ ap (λ b. cond b (Some e) None) t

-- ---- how many entries a part of a map has

-- each entry of a is one of b
abbrev pub IsPart : Entries → Entries → Type 0
IsPart a b = (q : Pair) (e : Entry) → fin.get a q ≡ Some e → fin.get b q ≡ Some e

-- a map that is not empty has an entry
some_entry : (m : Entries) (es : List (Pair × Entry)) → fin.entries m ≡ es → 0 < length es → (q : Pair) × (e : Entry) × (fin.get m q ≡ Some e)
some_entry m [] is some = absurd (omega arith)
some_entry m (x ∷ es) is some = (
  x.0,
  x.1,
  fin.get-entries m x.0 ∙ ap (fin.find pair_cmp x.0) is ∙ ap (λ b. cond b (Some x.1) (fin.find pair_cmp x.0 es)) ((eq_by_cmp_equiv pair_total).refl x.0),
)

some_len : (m : Entries) (q : Pair) (e : Entry) → fin.get m q ≡ Some e → 0 < fin.len m
some_len m q e is =
    elim (fin.len m) as (λ n. fin.len m ≡ n → 0 < n) [
      | zero ↦ λ h. absurd (none-some e (sym (ap (λ (x : Entries). fin.get x q) (fin.empty_of_len m h) ∙ fin.get-empty pair_cmp q) ∙ is))
      | suc n ↦ λ h. omega arith
    ] refl

cond_other : {A : Type 0} (b : Bool) (o : Option A) (x : A) → cond b None o ≡ Some x → (b ≡ false) × (o ≡ Some x)
cond_other true o x h = absurd (none-some x h)
cond_other false o x h = (refl, h)

len-remove-there : (m : Entries) (q : Pair) (e : Entry) → fin.get m q ≡ Some e → fin.len (fin.remove m q) + 1 ≡ fin.len m
len-remove-there m q e is =
    let less : fin.len (fin.remove m q) ≡ fin.len m - 1 = fin.len-remove pair_total m q ∙ ap (λ o. cond (is_some o) (fin.len m - 1) (fin.len m)) is in
    let some = some_len m q e is in
    omega (arith, less, some)

-- a part stays one without a pair that the part does not have
IsPart-remove : (a b : Entries) (k : Pair) → IsPart a b → fin.get a k ≡ None → IsPart a (fin.remove b k)
IsPart-remove a b k part none q e is =
    elim (eq_by_cmp pair_cmp q k) as (λ t. eq_by_cmp pair_cmp q k ≡ t → fin.get (fin.remove b k) q ≡ cond t None (fin.get b q) → fin.get (fin.remove b k) q ≡ Some e) [
      | true ↦ λ t g. absurd (none-some e (sym (ap (fin.get a) (pair_eq-true q k (sym (cmp-pair_eq q k) ∙ t)) ∙ none) ∙ is))
      | false ↦ λ t g. g ∙ part q e is
    ] refl (fin.get-remove pair_total b k q)

IsPart-removed : (m : Entries) (k : Pair) → IsPart (fin.remove m k) m
IsPart-removed m k q e is = (cond_other (eq_by_cmp pair_cmp q k) (fin.get m q) e (sym (fin.get-remove pair_total m k q) ∙ is)).1

get-removed : (m : Entries) (k : Pair) → fin.get (fin.remove m k) k ≡ None
get-removed m k = fin.get-remove pair_total m k k ∙ ap (λ b. cond b None (fin.get m k)) ((eq_by_cmp_equiv pair_total).refl k)

len-below : (n : ℕ) (a b : Entries) → fin.len a ≡ n → IsPart a b → n ≤ fin.len b
len-below zero a b size part = omega arith
len-below (suc n) a b size part =
    let there = some_entry a (fin.entries a) refl (omega (arith, fin.len-entries a, size)) in
    let in_b = part there.0 there.1 there.2 in
    let less : n ≤ fin.len (fin.remove b there.0) =
    len-below n (fin.remove a there.0) (fin.remove b there.0) (omega (arith, len-remove-there a there.0 there.1 there.2, size))
    (IsPart-remove (fin.remove a there.0) b there.0 (λ q e is. part q e (IsPart-removed a there.0 q e is)) (get-removed a there.0)) in
    omega (arith, less, len-remove-there b there.0 there.1 in_b)

pub len-part : (a b : Entries) → IsPart a b → fin.len a ≤ fin.len b
len-part a b part = len-below (fin.len a) a b refl part

IsPart-passing_entries : (p : Entry → Bool) (m : Entries) → IsPart (passing_entries p m) m
IsPart-passing_entries p m q e is = (if_kept-some p (fin.get m q) e (sym (get-passing_entries p m q) ∙ is)).0

pub len-passing_entries : (p : Entry → Bool) (m : Entries) → fin.len (passing_entries p m) ≤ fin.len m
len-passing_entries p m = len-part (passing_entries p m) m (IsPart-passing_entries p m)
