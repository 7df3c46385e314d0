-- What is passed over: entries that are not seen.
use Rattle.std.proofs.Common.{◌≡◌, ℕ, Bool, true, false, cond, List, [], ◌∷◌, ◌++◌, filter, refl, sym, ap, ◌∙◌, arith, ◌+◌, ◌-◌, Option, Some, None}
use Rattle.std.specs.Prelude.{MatchOption, ◌==◌, ◌&&◌, not}
use Rattle.std.specs.List.{list_any, AllByRecursion}
use Rattle.std.proofs.lemmas.Bool.{and_from, and_parts, or_left}
use Rattle.slp_text.specs.Words.{bytes_eq, texts_eq}
use Rattle.registry_core.specs.declared.entry.Entry.{Entry}
use Rattle.registry_core.specs.Entries.{are_alike, outlives, PassesAlike, Skips}
use Rattle.directory_questions.specs.Items.{is_wanted}
use Rattle.directory_state.specs.Searches.{are_alike_to, is_allowed, is_found, is_seen, seen_of, IsFirst, IsOpenBefore, IsSeenFrom, PassesUnseen}
use Rattle.directory_state.specs.declared.asked.Viewer.{Viewer}
use Rattle.directory_state.specs.declared.search.Search.{Search}
use Rattle.directory_state.proofs.ShownEntries.{first-alike, open_in-alike}

module _ (P Q : Entry → Type 0) (weaker : (e : Entry) → P e → Q e) where
  all-weaker : (es : List Entry) → AllByRecursion P es → AllByRecursion Q es
  all-weaker [] all = tt
  all-weaker (e ∷ es) all = (weaker e all.0, all-weaker es all.1)

  pub skips-weaker : (es rest : List Entry) → Skips P es rest → Skips Q es rest
  skips-weaker es rest skips = (skips.0, skips.1, all-weaker skips.0 skips.2)

module _ (p : Entry → Bool) where
  filter-none : (es rest : List Entry) → AllByRecursion (λ e. p e ≡ false) es → filter p (es ++ rest) ≡ filter p rest
  filter-none [] rest all = refl
  filter-none (e ∷ es) rest all = ap (λ b. cond b (e ∷ filter p (es ++ rest)) (filter p (es ++ rest))) all.0 ∙ filter-none es rest all.1

  pub filter-skips : (es rest : List Entry) → Skips (λ e. p e ≡ false) es rest → filter p es ≡ filter p rest
  filter-skips es rest skips = ap (filter p) skips.1 ∙ filter-none skips.0 rest skips.2

  pub filter-past : (e : Entry) (es rest : List Entry) → p e ≡ false → Skips (λ f. p f ≡ false) es rest → filter p (e ∷ es) ≡ filter p rest
  filter-past e es rest not_this skips = ap (λ b. cond b (e ∷ filter p es) (filter p es)) not_this ∙ filter-skips es rest skips

not-both : (a b : Bool) → a ≡ true → (a && b) ≡ false → b ≡ false
not-both true b is none = none
not-both false b is none = absurd cc

none-both : (a b : Bool) → b ≡ false → (a && b) ≡ false
none-both true b none = none
none-both false b none = refl

alike-to : (asker : ℕ) (e f : Entry) → are_alike e f ≡ true → are_alike_to asker e f ≡ true
alike-to asker e f alike =
    let scopes = and_parts (e.owner == f.owner && bytes_eq e.kind f.kind) (texts_eq e.scopes f.scopes) alike in
    let kinds = and_parts (e.owner == f.owner) (bytes_eq e.kind f.kind) scopes.0 in
    and_from _ _ (and_from _ _ (or_left (e.owner == f.owner) (not (asker == e.owner) && not (asker == f.owner)) kinds.0) kinds.1) scopes.1

-- one that is alike to one that lives and is not seen is not seen
unseen-alike : (v : Viewer) (e f : Entry) → outlives v.moment e ≡ true → is_seen v e ≡ false → are_alike e f ≡ true → is_seen v f ≡ false
unseen-alike v e f lives unseen alike =
    let to : are_alike_to v.asker e f ≡ true = alike-to v.asker e f alike in
    let here : is_allowed v.rules.now v.asker v.asked e ≡ false = not-both (outlives v.moment e) _ lives unseen in
    none-both (outlives v.moment f) _ (ap (λ opens. list_any opens v.asked) (sym (open_in-alike v e f to)) ∙ here)

pub unseen-passes : (v : Viewer) (e : Entry) (es rest : List Entry) → outlives v.moment e ≡ true → is_seen v e ≡ false → PassesAlike e es rest → PassesUnseen v es rest
unseen-passes v e es rest lives unseen = skips-weaker (λ f. are_alike e f ≡ true) (λ f. is_seen v f ≡ false) (λ f alike. unseen-alike v e f lives unseen alike) es rest

-- what is not seen is not found
pub unseen-found : (s : Search) (e : Entry) → is_seen s.viewer e ≡ false → is_found s e ≡ false
unseen-found s e unseen = ap (λ b. b && is_wanted s.query.now (seen_of s.viewer e)) unseen

pub unfound-passes : (s : Search) (es rest : List Entry) → PassesUnseen s.viewer es rest → Skips (λ e. is_found s e ≡ false) es rest
unfound-passes s = skips-weaker (λ e. is_seen s.viewer e ≡ false) (λ e. is_found s e ≡ false) (unseen-found s)

-- what comes next and is alike to one that is open is open where that is
pub run-next : (v : Viewer) (rest : ℕ → List Entry) (from first : ℕ) (f : Entry) → IsOpenBefore v rest from (Some first)
    → ((e : Entry) → rest (from - 1) ≡ e ∷ rest from → (rest from ≡ f ∷ rest (from + 1)) × (are_alike e f ≡ true)) → (rest from ≡ f ∷ rest (from + 1)) × IsFirst v f first
run-next v rest from first f before next =
    let now = next before.0 before.1 in
    (now.0, first-alike v before.0 f (Some first) (alike-to v.asker before.0 f now.1) before.2)

pub run-before : (v : Viewer) (rest : ℕ → List Entry) (from first : ℕ) (f : Entry) → (rest from ≡ f ∷ rest (from + 1)) × IsFirst v f first → IsOpenBefore v rest (from + 1) (Some first)
run-before v rest from first f is =
    let at : from + 1 - 1 ≡ from = omega arith in
    (f, ap rest at ∙ is.0, is.1)

-- where one that is seen is open first is known of the number after it
pub seen-before : (v : Viewer) (rest : ℕ → List Entry) (next : ℕ) (e : Entry) (first : Option ℕ) → rest (next - 1) ≡ e ∷ rest next → MatchOption first (is_seen v e ≡ false) (IsSeenFrom v e) → IsOpenBefore v rest next first
seen-before v rest next e None there seen = tt
seen-before v rest next e (Some first) there seen = (e, there, seen.1)
