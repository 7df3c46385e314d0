-- What a ruling on some scopes says of their denial and of their first scope.
use Rattle.std.proofs.Common.{◌≡◌, ℕ, ◌+◌, ◌<◌, ◌≤◌, Bool, true, false, cond, ◌&&◌, ◌||◌, List, [], ◌∷◌, drop, length, Option, Some, None, Result, Ok, Err, refl, sym, ap, ap₂, ◌∙◌, arith}
use Rattle.std.specs.Prelude.{find, is_some, not, slice_get, unwrap_or, IfSome}
use Rattle.std.specs.List.{list_any}
use Rattle.std.specs.Option.{option_map, option_or}
use Rattle.std.specs.Ordering.{match_ordering}
use Rattle.std.specs.declared.cmp.Ordering.TheVariants.{Less, Equal, Greater}
use Rattle.std.proofs.lemmas.List.{drop_all}
use Rattle.std.proofs.lemmas.Option.{none-some, same_Some}
use Rattle.directory_judge.proofs.ConcernedEntries.{or_true}
use Rattle.slp_text.specs.Words.{bytes_cmp, texts_eq}
use Rattle.access_rules.specs.declared.rule.Action.TheVariants.{Withdraw}
use Rattle.access_rules.specs.Deciding.{Deed, SiteRules, deciding, deed}
use Rattle.registry_core.specs.declared.entry.Entry.{Entry}
use Rattle.registry_core.specs.Entries.{outlives}
use Rattle.directory_judge.specs.Judgements.{Grounds, because_of, by_rule, denial_of, earlier_entry, is_denied, is_kept, ruling_on, ruling_in}
use Rattle.directory_judge.specs.Walks.{earlier_ruling, entry_in, walk_with, first_with, IsRuling, IsDenial, IsRuledWalk, IsVisit}
use Rattle.directory_judge.proofs.Denials.{find-drop, get-front}
use Rattle.directory_judge.specs.declared.reason.Because.{Because}
use Rattle.directory_judge.specs.declared.reason.Finding.{Finding}
use Rattle.directory_judge.specs.declared.withdrawals.RuledEntry.{RuledEntry}
use Rattle.directory_judge.specs.declared.withdrawals.Walk.{Walk}

pub not-true : (b : Bool) → not b ≡ true → b ≡ false
not-true true h = cc
not-true false h = refl

pub not-false : (b : Bool) → not b ≡ false → b ≡ true
not-false true h = refl
not-false false h = cc

-- ---- what a ruling is

abbrev reason_of : Result Because Because → Because
reason_of (Ok b) = b
reason_of (Err b) = b

abbrev allows_of : Result Because Because → Bool
allows_of (Ok b) = true
allows_of (Err b) = false

reason_of-ruling : (r : Finding) → reason_of (ruling_in r) ≡ because_of r
reason_of-ruling r = elim (r.allow) as (λ b. reason_of (cond b (Ok (because_of r)) (Err (because_of r))) ≡ because_of r) [ true ↦ refl | false ↦ refl ]

allows_of-ruling : (r : Finding) → allows_of (ruling_in r) ≡ r.allow
allows_of-ruling r = elim (r.allow) as (λ b. allows_of (cond b (Ok (because_of r)) (Err (because_of r))) ≡ b) [ true ↦ refl | false ↦ refl ]

-- ---- what denies, and else what allows in the first scope

module _ (by : List ℕ → Because) where
  either : Option Because → Option (List ℕ) → Option (Result Because Because)
  either d o = option_or (option_map Err d) (option_map (λ s. Ok (by s)) o)

  either-denied : (d : Option Because) (o : Option (List ℕ)) (x : Result Because Because) → either d o ≡ Some x → allows_of x ≡ false → d ≡ Some (reason_of x)
  unfolding either
  either-denied (Some b) o x is h = ap (λ y. Some (reason_of y)) (same_Some (Err b) x is)
  either-denied None (Some s) x is h = let k : true ≡ false = ap allows_of (same_Some (Ok (by s)) x is) ∙ h in cc
  either-denied None None x is h = absurd (none-some x is)

  either-allowed : (d : Option Because) (o : Option (List ℕ)) (x : Result Because Because) → either d o ≡ Some x → allows_of x ≡ true → d ≡ None
  unfolding either
  either-allowed (Some b) o x is h = let k : false ≡ true = ap allows_of (same_Some (Err b) x is) ∙ h in cc
  either-allowed None o x is h = refl

  either-first : (d : Option Because) (o : Option (List ℕ)) (x : Result Because Because) → either d o ≡ Some x → d ≡ None → reason_of x ≡ by (unwrap_or o [])
  unfolding either
  either-first (Some b) o x is none = absurd (none-some b (sym none))
  either-first None (Some s) x is none = ap reason_of (sym (same_Some (Ok (by s)) x is))
  either-first None None x is none = absurd (none-some x is)

  either-none : (d : Option Because) (o : Option (List ℕ)) → either d o ≡ None → (d ≡ None) × (o ≡ None)
  unfolding either
  either-none (Some b) o is = absurd (none-some _ (sym is))
  either-none None (Some s) is = absurd (none-some _ (sym is))
  either-none None None is = (refl, refl)

module _ (rules : SiteRules) (d : Deed) (scopes : List (List ℕ)) where
  pub ruling-none : ruling_on rules d scopes ≡ None → (denial_of rules d scopes ≡ None) × (slice_get scopes 0 ≡ None)
  unfolding either
  ruling-none is = either-none (by_rule rules d) (denial_of rules d scopes) (slice_get scopes 0) is

  module _ (r : Finding) (is : ruling_on rules d scopes ≡ Some (ruling_in r)) where
    pub ruling-denied : r.allow ≡ false → denial_of rules d scopes ≡ Some (because_of r)
    unfolding either
    ruling-denied h =
        either-denied (by_rule rules d) (denial_of rules d scopes) (slice_get scopes 0) (ruling_in r) is (allows_of-ruling r ∙ h) ∙ ap Some (reason_of-ruling r)

    pub ruling-allowed : r.allow ≡ true → denial_of rules d scopes ≡ None
    unfolding either
    ruling-allowed h = either-allowed (by_rule rules d) (denial_of rules d scopes) (slice_get scopes 0) (ruling_in r) is (allows_of-ruling r ∙ h)

    pub ruling-first : denial_of rules d scopes ≡ None → because_of r ≡ by_rule rules d (unwrap_or (slice_get scopes 0) [])
    unfolding either
    ruling-first none = sym (reason_of-ruling r) ∙ either-first (by_rule rules d) (denial_of rules d scopes) (slice_get scopes 0) (ruling_in r) is none

pub ruling_on-some : (rules : SiteRules) (d : Deed) (scopes : List (List ℕ)) (x : Result Because Because) → ruling_on rules d scopes ≡ Some x → 0 < length scopes
ruling_on-some rules d [] x is = absurd (none-some x is)
ruling_on-some rules d (s ∷ ss) x is = omega arith

pub no-scopes : (scopes : List (List ℕ)) → slice_get scopes 0 ≡ None → length scopes ≡ 0
no-scopes [] is = refl
no-scopes (s ∷ ss) is = absurd (none-some s (sym is))

-- ---- the scopes asked one by one

-- nothing was denied so far, and the first that was ruled on is the first of all
pub record IsAsked (rules : SiteRules) (d : Deed) (scopes : List (List ℕ)) (held : Option Finding) (place : ℕ) : Type 0 where
  pub denied : find (is_denied rules d) scopes ≡ find (is_denied rules d) (drop place scopes)
  pub first : option_or (option_map ruling_in held) (option_map (λ s. Ok (by_rule rules d s)) (slice_get (drop place scopes) 0)) ≡ option_map (λ s. Ok (by_rule rules d s)) (slice_get scopes 0)

or-none : {A : Type 0} (o : Option A) → option_or o None ≡ o
or-none None = refl
or-none (Some x) = refl

or-some : (o : Option Finding) (r : Finding) (x : Option (Result Because Because)) → option_or (option_map ruling_in (option_or o (Some r))) x ≡ option_or (option_map ruling_in o) (Some (ruling_in r))
or-some None r x = refl
or-some (Some f) r x = refl

module _ (rules : SiteRules) (d : Deed) where
  pub ruled-none : (scopes : List (List ℕ)) → slice_get scopes 0 ≡ None → None ≡ ruling_on rules d scopes
  ruled-none [] is = refl
  ruled-none (s ∷ ss) is = absurd (none-some s (sym is))

  pub asked-none : (scopes : List (List ℕ)) → IsAsked rules d scopes None 0
  asked-none scopes = record { denied = refl; first = refl }

module _ (rules : SiteRules) (d : Deed) (scopes : List (List ℕ)) (first : Option Finding) (place : ℕ) (so_far : IsAsked rules d scopes first place) where
  pub ruled-all : length scopes ≤ place → option_map ruling_in first ≡ ruling_on rules d scopes
  ruled-all all =
      let none : drop place scopes ≡ [] = drop_all place scopes all in
      sym (or-none (option_map ruling_in first)) ∙ ap (λ xs. option_or (option_map ruling_in first) (option_map (λ s. Ok (by_rule rules d s)) (slice_get xs 0))) (sym none) ∙ so_far.first
      ∙ ap (λ o. option_or (option_map Err (option_map (by_rule rules d) o)) (option_map (λ s. Ok (by_rule rules d s)) (slice_get scopes 0)))
      (sym (so_far.denied ∙ ap (find (is_denied rules d)) none))

  module _ (r : Finding) (s : List ℕ) (there : slice_get scopes place ≡ Some s) (allows : r.allow ≡ (deciding rules d s).allow) (by-ruling : because_of r ≡ by_rule rules d s) where
    pub ruled-here : r.allow ≡ false → Some (ruling_in r) ≡ ruling_on rules d scopes
    ruled-here h =
        let found : find (is_denied rules d) scopes ≡ Some s =
        so_far.denied ∙ find-drop (is_denied rules d) scopes place s there
        ∙ ap (λ b. cond b (Some s) (find (is_denied rules d) (drop (place + 1) scopes))) (ap not (sym allows ∙ h)) in
        ap (λ b. Some (cond b (Ok (because_of r)) (Err (because_of r)))) h ∙ ap (λ b. Some (Err b)) by-ruling
        ∙ ap (λ o. option_or (option_map Err (option_map (by_rule rules d) o)) (option_map (λ s. Ok (by_rule rules d s)) (slice_get scopes 0))) (sym found)

    pub IsAsked-more : r.allow ≡ true → IsAsked rules d scopes (option_or first (Some r)) (place + 1)
    IsAsked-more h = record {
      denied =
          so_far.denied ∙ find-drop (is_denied rules d) scopes place s there
          ∙ ap (λ b. cond b (Some s) (find (is_denied rules d) (drop (place + 1) scopes))) (ap not (sym allows ∙ h));
      first =
          or-some first r _ ∙ ap (λ b. option_or (option_map ruling_in first) (Some (cond b (Ok (because_of r)) (Err (because_of r))))) h
          ∙ ap (λ b. option_or (option_map ruling_in first) (Some (Ok b))) by-ruling
          ∙ ap (λ o. option_or (option_map ruling_in first) (option_map (λ s. Ok (by_rule rules d s)) o)) (sym (get-front scopes place s there)) ∙ so_far.first;
    }

-- ---- what may not be withdrawn

is_some-find : (p : List ℕ → Bool) (xs : List (List ℕ)) → is_some (find p xs) ≡ list_any p xs
is_some-find p [] = refl
is_some-find p (x ∷ xs) = elim (p x) as (λ b. is_some (cond b (Some x) (find p xs)) ≡ (b || list_any p xs)) [ true ↦ refl | false ↦ is_some-find p xs ]

is_some-map : {A B : Type 0} (f : A → B) (o : Option A) → is_some (option_map f o) ≡ is_some o
is_some-map f None = refl
is_some-map f (Some x) = refl

pub is_kept-denial : (rules : SiteRules) (asker : ℕ) (e : Entry) → is_kept rules asker e ≡ is_some (denial_of rules (deed asker Withdraw e.kind e.owner) e.scopes)
is_kept-denial rules asker e =
    sym (is_some-map (by_rule rules (deed asker Withdraw e.kind e.owner)) (find (is_denied rules (deed asker Withdraw e.kind e.owner)) e.scopes) ∙ is_some-find (is_denied rules (deed asker Withdraw e.kind e.owner)) e.scopes)

none-of : (o : Option Because) → is_some o ≡ false → o ≡ None
none-of None h = refl
none-of (Some b) h = cc

pub not-kept : (rules : SiteRules) (asker : ℕ) (e : Entry) → is_kept rules asker e ≡ false → denial_of rules (deed asker Withdraw e.kind e.owner) e.scopes ≡ None
not-kept rules asker e h = none-of (denial_of rules (deed asker Withdraw e.kind e.owner) e.scopes) (sym (is_kept-denial rules asker e) ∙ h)

-- an entry's ruling says whether it may be withdrawn
kept-ruling_on : (g : Grounds) (r : RuledEntry) → IsRuling g r → is_kept g.rules g.asker (entry_in r) ≡ not r.finding.allow
kept-ruling_on g r is =
    is_kept-denial g.rules g.asker (entry_in r)
    ∙ (elim (r.finding.allow) as (λ b. r.finding.allow ≡ b → is_some (denial_of g.rules (deed g.asker Withdraw (entry_in r).kind (entry_in r).owner) (entry_in r).scopes) ≡ not b) [
      | true ↦ λ t. ap is_some (ruling-allowed g.rules (deed g.asker Withdraw (entry_in r).kind (entry_in r).owner) (entry_in r).scopes r.finding is t)
      | false ↦ λ t. ap is_some (ruling-denied g.rules (deed g.asker Withdraw (entry_in r).kind (entry_in r).owner) (entry_in r).scopes r.finding is t)
    ] refl)

-- ---- a walk with one more

earlier_entry-entry : (o : Option RuledEntry) (r : RuledEntry) → entry_in (earlier_ruling o r) ≡ earlier_entry (option_map entry_in o) (entry_in r)
earlier_entry-entry None r = refl
earlier_entry-entry (Some f) r = elim (bytes_cmp r.entry.now.language f.entry.now.language) as (λ c. entry_in (match_ordering c r f f) ≡ match_ordering c (entry_in r) (entry_in f) (entry_in f)) [
  | Less ↦ refl
  | Equal ↦ refl
  | Greater ↦ refl
]

earlier_entry-meets : (P : RuledEntry → Type 0) (o : Option RuledEntry) (r : RuledEntry) → IfSome o P → P r → P (earlier_ruling o r)
earlier_entry-meets P None r h k = k
earlier_entry-meets P (Some f) r h k = elim (bytes_cmp r.entry.now.language f.entry.now.language) as (λ c. P (match_ordering c r f f)) [ Less ↦ k | Equal ↦ h | Greater ↦ h ]

or_false : (b : Bool) → (b || false) ≡ b
or_false true = refl
or_false false = refl

kept-first : (allow : Bool) (o : Option RuledEntry) (r : RuledEntry) → option_map entry_in (cond allow o (Some (earlier_ruling o r))) ≡ first_with (not allow) (option_map entry_in o) (entry_in r)
kept-first true o r = refl
kept-first false o r = ap Some (earlier_entry-entry o r)

abbrev alive : Walk → Walk
alive walk = record { is_live = true; first = walk.first; kept = walk.kept }

module _ (g : Grounds) (scopes : List (List ℕ)) (walk : Walk) where
  pub IsVisit-dead : (e : Entry) → outlives g.now e ≡ false → IsVisit g scopes e walk walk
  IsVisit-dead e dead = record {
    is_live = sym (ap (λ b. walk.is_live || b) dead ∙ or_false walk.is_live);
    first = ap (λ b. first_with (b && texts_eq e.scopes scopes) (option_map entry_in walk.first) e) (sym dead);
    kept = ap (λ b. first_with (b && texts_eq e.scopes scopes && is_kept g.rules g.asker e) (option_map entry_in walk.kept) e) (sym dead);
  }

  pub IsVisit-other : (e : Entry) → outlives g.now e ≡ true → texts_eq e.scopes scopes ≡ false → IsVisit g scopes e walk (alive walk)
  IsVisit-other e lives other = record {
    is_live = sym (ap (λ b. walk.is_live || b) lives ∙ or_true walk.is_live);
    first = ap₂ (λ b c. first_with (b && c) (option_map entry_in walk.first) e) (sym lives) (sym other);
    kept = ap₂ (λ b c. first_with (b && c && is_kept g.rules g.asker e) (option_map entry_in walk.kept) e) (sym lives) (sym other);
  }

  module _ (r : RuledEntry) (is : IsRuling g r) where
    pub IsVisit-with : outlives g.now (entry_in r) ≡ true → texts_eq (entry_in r).scopes scopes ≡ true → IsVisit g scopes (entry_in r) walk (walk_with (alive walk) r)
    IsVisit-with lives same = record {
      is_live = sym (ap (λ b. walk.is_live || b) lives ∙ or_true walk.is_live);
      first = ap Some (earlier_entry-entry walk.first r) ∙ ap₂ (λ b c. first_with (b && c) (option_map entry_in walk.first) (entry_in r)) (sym lives) (sym same);
      kept =
          kept-first r.finding.allow walk.kept r ∙ ap (λ b. first_with b (option_map entry_in walk.kept) (entry_in r)) (sym (kept-ruling_on g r is))
          ∙ ap₂ (λ b c. first_with (b && c && is_kept g.rules g.asker (entry_in r)) (option_map entry_in walk.kept) (entry_in r)) (sym lives) (sym same);
    }

    pub IsRuledWalk-with : IsRuledWalk g walk → IsRuledWalk g (walk_with (alive walk) r)
    IsRuledWalk-with ruling_on = record {
      first = earlier_entry-meets (IsRuling g) walk.first r ruling_on.first is;
      kept = elim (r.finding.allow) as (λ b. r.finding.allow ≡ b → IfSome (cond b walk.kept (Some (earlier_ruling walk.kept r))) (IsDenial g)) [
        | true ↦ λ t. ruling_on.kept
        | false ↦ λ t. earlier_entry-meets (IsDenial g) walk.kept r ruling_on.kept (ruling-denied g.rules (deed g.asker Withdraw (entry_in r).kind (entry_in r).owner) (entry_in r).scopes r.finding is t)
      ] refl;
    }
