-- Entries, and what is shown of them.
use Rattle.std.proofs.Common.{◌≡◌, ◌<◌, ◌+◌, ℕ, Bool, true, false, cond, not, List, [], ◌∷◌, ◌++◌, drop, length, get_or, map, Option, Some, None, refl, sym, ap, subst, ◌∙◌, arith, eqb-true, inl, inr}
use Rattle.std.specs.Prelude.{◌&&◌, ◌||◌, ◌==◌, nat_eq, filter, flat_map, is_some, position, slice_get, Contains, IsTrue, MatchOption}
use Rattle.std.proofs.lemmas.Bool.{and_parts}
use Rattle.std.proofs.lemmas.Bool.Decides.{nat_tests}
use Rattle.std.proofs.lemmas.List.{nil_from_length}
use Rattle.std.proofs.lemmas.List.Elements.{Contains-append_cases}
use Rattle.std.proofs.lemmas.Option.{get_or_from_slice_get, slice_get-get_or}
use Rattle.std.specs.FinMap as fin
use Rattle.std.specs.List.{list_any}
use Rattle.attr_list.specs.Lists.{Attributes, attributes_of}
use Rattle.attr_list.specs.Maps.{elements_in, joined_attributes, kept_attributes, selected_attributes}
use Rattle.attr_list.proofs.Combined.{same_attributes}
use Rattle.attr_list.proofs.KeptAttributes.{get-kept, joined-kept, kept-all, kept-twice}
use Rattle.slp_text.proofs.KeySets.{bytes_same, member_cases}
use Rattle.slp_tags.specs.Tags.{Part, selects}
use Rattle.slp_text.specs.Words.{bytes_eq, texts_eq, IsAscending}
use Rattle.addresses.specs.Addresses.{has_address}
use Rattle.access_rules.specs.Deciding.{Deed, action_eq, allows_kind, allows_scope, deed, hides_in, rules_in, verdict_at, is_hidden, is_hidden_by, is_hidden_from, part_in, some_hides}
use Rattle.access_rules.specs.declared.hide.FittingHides.{FittingHides}
use Rattle.access_rules.specs.declared.rule.Action.TheVariants.{See}
use Rattle.registry_core.specs.Entries.{outlives}
use Rattle.registry_core.specs.declared.entry.Entry.{Entry}
use Rattle.registry_core.proofs.SameTexts.{texts_same}
use Rattle.directory_questions.specs.Items.{AreInOrder, AreJoined, IsElsewhere}
use Rattle.directory_questions.specs.Sights.{is_left_in, is_open_in, is_shown}
use Rattle.directory_questions.specs.declared.query.AttrQuery.{AttrQuery}
use Rattle.directory_state.specs.Deadlines.{UrlDeadline, with_deadline}
use Rattle.directory_state.specs.Searches.{are_alike_to, deadlines_with, is_allowed, is_seen, open_scopes, seen_of, shown_elements, shows_in, AreSeenBy, IsFirst, IsFirstOpen, IsIn, IsInAnd, IsSeenFrom, IsSight, ShowsAll}
use Rattle.directory_state.specs.declared.shown.Sight.{Sight}
use Rattle.directory_state.specs.declared.viewer.Seen.{Seen}
use Rattle.directory_state.specs.declared.asked.Viewer.{Viewer}
use Rattle.directory_state.proofs.OpenEntries.{any-none, any-some, mapped-from, mapped-has}
use Rattle.directory_state.proofs.SeenUrls.{drop_here}

-- ---- scope by scope

module _ (v : Viewer) (e : Entry) where
  abbrev opens : List ℕ → Bool
  opens = is_open_in v.rules.now v.asker e

  abbrev stays : List ℕ → List ℕ → Bool
  stays tag = is_left_in v.rules.now v.asker e tag

  -- the scope at a place comes first of those from it on, if it is open
  pub from-here : (place : ℕ) → place < length v.asked → open_scopes v e place ≡ cond (opens (get_or v.asked place [])) (get_or v.asked place [] ∷ open_scopes v e (place + 1)) (open_scopes v e (place + 1))
  from-here place within = ap (filter opens) (drop_here v.asked place (get_or v.asked place []) (slice_get-get_or v.asked place [] within))

  any-cond : (tag s : List ℕ) (ss : List (List ℕ)) → list_any (stays tag) (cond (opens s) (s ∷ ss) ss) ≡ ((opens s && stays tag s) || list_any (stays tag) ss)
  any-cond tag s ss = elim (opens s) as (λ b. list_any (stays tag) (cond b (s ∷ ss) ss) ≡ ((b && stays tag s) || list_any (stays tag) ss)) [ true ↦ refl | false ↦ refl ]

  turn : (tag : List ℕ) (place : ℕ) (b : Bool) → place < length v.asked → shows_in v e tag (get_or v.asked place []) ≡ b → list_any (stays tag) (open_scopes v e place) ≡ (b || list_any (stays tag) (open_scopes v e (place + 1)))
  turn tag place b within is =
      ap (list_any (stays tag)) (from-here place within) ∙ any-cond tag (get_or v.asked place []) (open_scopes v e (place + 1))
      ∙ ap (λ t. t || list_any (stays tag) (open_scopes v e (place + 1))) is

  -- the tag is left in the scope at a place, or it is not
  pub left-here : (tag : List ℕ) (place : ℕ) → place < length v.asked → shows_in v e tag (get_or v.asked place []) ≡ true → list_any (stays tag) (open_scopes v e place) ≡ true
  left-here tag place within is = turn tag place true within is

  pub none-left : (tag : List ℕ) (place : ℕ) → place < length v.asked → shows_in v e tag (get_or v.asked place []) ≡ false → list_any (stays tag) (open_scopes v e place) ≡ list_any (stays tag) (open_scopes v e (place + 1))
  none-left tag place within is = turn tag place false within is

-- where an entry that lives is found to be open first, it is seen; where nowhere, it is not
pub seen-from : (v : Viewer) (e : Entry) (o : Option ℕ) → outlives v.moment e ≡ true → IsFirstOpen v e o → MatchOption o (is_seen v e ≡ false) (IsSeenFrom v e)
seen-from v e None lives none = ap (λ b. b && is_allowed v.rules.now v.asker v.asked e) lives ∙ any-none (is_open_in v.rules.now v.asker e) v.asked none
seen-from v e (Some place) lives first = (
  ap (λ b. b && is_allowed v.rules.now v.asker v.asked e) lives ∙ any-some (is_open_in v.rules.now v.asker e) v.asked (get_or v.asked place []) (open_scopes v e (place + 1)) first.first,
  first,
)

own-both : (asker one other : ℕ) → (one == other || (not (asker == one) && not (asker == other))) ≡ true → (asker == one) ≡ (asker == other)
own-both asker one other h = elim (one == other) as (λ b. one == other ≡ b → (b || (not (asker == one) && not (asker == other))) ≡ true → (asker == one) ≡ (asker == other)) [
  | true ↦ λ same _. ap (λ o. asker == o) (eqb-true one other same)
  | false ↦ λ _ k. neither (asker == one) (asker == other) k
] refl h
  where
    neither : (x y : Bool) → (not x && not y) ≡ true → x ≡ y
    neither false false k = refl
    neither true y k = absurd cc
    neither false true k = absurd cc

-- entries alike are open in the same scopes
pub open_in-alike : (v : Viewer) (e f : Entry) → are_alike_to v.asker e f ≡ true → is_open_in v.rules.now v.asker e ≡ is_open_in v.rules.now v.asker f
open_in-alike v e f alike =
    let a = v.asker in
    let opens : List ℕ → List (List ℕ) → Bool → List ℕ → Bool =
    λ kind names own s. list_any (λ k. bytes_eq k s) names
    && (verdict_at v.rules.now (position (λ r. list_any (λ p. has_address p a) r.from && action_eq r.action See && allows_kind r.kind kind && allows_scope r.scopes s && (not r.owner || own)) (rules_in v.rules.now))).allow in
    let scopes = and_parts ((e.owner == f.owner || (not (a == e.owner) && not (a == f.owner))) && bytes_eq e.kind f.kind) (texts_eq e.scopes f.scopes) alike in
    let kinds = and_parts (e.owner == f.owner || (not (a == e.owner) && not (a == f.owner))) (bytes_eq e.kind f.kind) scopes.0 in
    ap (λ kind. opens kind e.scopes (a == e.owner)) (bytes_same e.kind f.kind kinds.1) ∙ ap (λ names. opens f.kind names (a == e.owner)) (texts_same e.scopes f.scopes scopes.1)
    ∙ ap (opens f.kind f.scopes) (own-both a e.owner f.owner kinds.0)

open-alike : (v : Viewer) (e f : Entry) → are_alike_to v.asker e f ≡ true → (from : ℕ) → open_scopes v e from ≡ open_scopes v f from
open-alike v e f alike from = ap (λ opens. filter opens (drop from v.asked)) (open_in-alike v e f alike)

pub first-alike : (v : Viewer) (e f : Entry) (o : Option ℕ) → are_alike_to v.asker e f ≡ true → IsFirstOpen v e o → IsFirstOpen v f o
first-alike v e f None alike none = sym (open-alike v e f alike 0) ∙ none
first-alike v e f (Some place) alike first = record {
  within = first.within;
  first = sym (open-alike v e f alike 0) ∙ first.first ∙ ap (λ ss. get_or v.asked place [] ∷ ss) (open-alike v e f alike (place + 1));
}

-- it is seen where such a scope is found
pub seen-some : (v : Viewer) (e : Entry) (o : Option ℕ) → MatchOption o (is_seen v e ≡ false) (IsSeenFrom v e) → is_seen v e ≡ is_some o
seen-some v e None unseen = unseen
seen-some v e (Some place) seen = seen.0

-- one more is found that is seen
pub seen-push : (v : Viewer) (ss : List Seen) (s : Seen) → AreSeenBy v ss → IsSeenFrom v s.entry.now s.first → AreSeenBy v (ss ++ s ∷ [])
seen-push v ss s before is t has = elim (Contains-append_cases ss (s ∷ []) t has) [
  | inl old ↦ before t old
  | inr new ↦ elim (member_cases s t [] new) [
    | inl same ↦ subst (λ (x : Seen). IsSeenFrom v x.entry.now x.first) same is
    | inr none ↦ absurd (omega (arith, none.1))
  ]
]

-- what tables hide of an entry in a scope is what is hidden there
abbrev pub HidesAs : Viewer → Entry → Option FittingHides → Deed → List ℕ → Type 0
HidesAs v e o d s = (tag : List ℕ) → is_hidden_from o d s tag ≡ is_hidden v.rules.now d s tag

abbrev pub seeing : Viewer → Entry → Deed
seeing v e = deed v.asker See e.kind e.owner

-- what is about who asks is asked alone
module _ (v : Viewer) (e : Entry) (d : Deed) (s : List ℕ) (is : d ≡ seeing v e) where
  pub hides-about : (tag : List ℕ) → is_hidden (part_in v.about) d s tag ≡ is_hidden v.rules.now d s tag
  hides-about tag = v.alike.hides d s tag (ap (λ (x : Deed). x.asker) is)

-- the same, by the place of the scope
pub hides-there : (v : Viewer) (e : Entry) (o : Option FittingHides) (d : Deed) (place : ℕ) (s : List ℕ) → d ≡ seeing v e → slice_get v.asked place ≡ Some s → HidesAs v e o d s
    → HidesAs v e o (seeing v e) (get_or v.asked place [])
hides-there v e o d place s is at hides = subst (HidesAs v e o (seeing v e)) (sym (get_or_from_slice_get v.asked place s [] at)) (subst (λ x. HidesAs v e o x s) is hides)

-- a tag is shown where the tables of the first scope do not hide it, or in a scope after it
pub by-sight : (v : Viewer) (e : Entry) (s : Sight) (tag : List ℕ) (hidden : Bool) → IsSight v e s → hidden ≡ is_hidden_by s.tables (seeing v e) (get_or v.asked s.first []) tag
    → is_shown v.rules.now v.asker v.asked e tag ≡ (not hidden || list_any (is_left_in v.rules.now v.asker e tag) (open_scopes v e (s.first + 1)))
by-sight v e s tag hidden sight by =
    ap (list_any (is_left_in v.rules.now v.asker e tag)) sight.first.first
    ∙ ap (λ b. not b || list_any (is_left_in v.rules.now v.asker e tag) (open_scopes v e (s.first + 1))) (sym (sight.hidden tag) ∙ sym by)

-- ---- where nothing is hidden

pub no-tables : (v : Viewer) (b : Bool) → b ≡ nat_eq (length (hides_in (part_in v.about))) 0 → b ≡ true → hides_in (part_in v.about) ≡ []
no-tables v b is none =
    let count : nat_eq (length (hides_in (part_in v.about))) 0 ≡ true = sym is ∙ none in
    nil_from_length (hides_in (part_in v.about)) (grind (arith, nat_tests))

pub kept-same : (a : Attributes) (p q : List ℕ → Bool) → ((tag : List ℕ) → p tag ≡ q tag) → kept_attributes a p ≡ kept_attributes a q
kept-same a p q same = same_attributes _ _ (λ tag. get-kept a p tag ∙ ap (λ b. cond b (fin.get a tag) None) (same tag) ∙ sym (get-kept a q tag))

-- what shows all its tags is shown whole
pub all-whole : (v : Viewer) (e : Entry) → ShowsAll v e → (seen_of v e).attrs ≡ e.attrs
all-whole v e all = kept-same e.attrs (is_shown v.rules.now v.asker v.asked e) (λ tag. true) all ∙ kept-all e.attrs

-- it does so where no tag is hidden in the first scope in which it is open
pub left-all : (v : Viewer) (e : Entry) (place : ℕ) → IsFirst v e place → ((tag : List ℕ) → is_left_in v.rules.now v.asker e tag (get_or v.asked place []) ≡ true) → ShowsAll v e
left-all v e place opened left = λ tag. ap (list_any (is_left_in v.rules.now v.asker e tag)) opened.first ∙ ap (λ b. b || list_any (is_left_in v.rules.now v.asker e tag) (open_scopes v e (place + 1))) (left tag)

-- where no hide table is about who asks, what is open is shown whole
pub open-whole : (v : Viewer) (e : Entry) (place : ℕ) → hides_in (part_in v.about) ≡ [] → IsFirst v e place → (seen_of v e).attrs ≡ e.attrs
open-whole v e place none opened =
    let s = get_or v.asked place [] in
    all-whole v e (left-all v e place opened (λ tag. ap not (sym (v.alike.hides (seeing v e) s tag refl) ∙ ap (λ hs. some_hides hs (seeing v e) s tag) none)))

-- ---- what is selected of it

and-turned : (a b : Bool) → (a && b) ≡ (b && a)
and-turned true true = refl
and-turned true false = refl
and-turned false true = refl
and-turned false false = refl

pub shown-selected : (v : Viewer) (e : Entry) (tags : List Part) → kept_attributes e.attrs (λ tag. selects tags tag && is_shown v.rules.now v.asker v.asked e tag) ≡ kept_attributes (seen_of v e).attrs (selects tags)
shown-selected v e tags =
    let shown : List ℕ → Bool = is_shown v.rules.now v.asker v.asked e in
    kept-same e.attrs (λ tag. selects tags tag && shown tag) (λ tag. shown tag && selects tags tag) (λ tag. and-turned (selects tags tag) (shown tag)) ∙ sym (kept-twice e.attrs shown (selects tags))

-- ---- of many entries

module _ (v : Viewer) where
  abbrev show : Entry → Entry
  show = seen_of v

  pub deadlines-shown : (es : List Entry) (ps : List UrlDeadline) → deadlines_with (map show es) ps ≡ deadlines_with es ps
  deadlines-shown [] ps = refl
  deadlines-shown (e ∷ es) ps = deadlines-shown es (with_deadline e.url e.deadline ps)

  urls-shown : (es : List Entry) → map (λ (e : Entry). e.url) (map show es) ≡ map (λ e. e.url) es
  urls-shown [] = refl
  urls-shown (e ∷ es) = ap (λ us. e.url ∷ us) (urls-shown es)

  attrs-shown : (es : List Entry) → map (λ (e : Entry). e.attrs) (map show es) ≡ map (λ e. (show e).attrs) es
  attrs-shown [] = refl
  attrs-shown (e ∷ es) = ap (λ all. (show e).attrs ∷ all) (attrs-shown es)

  elements-shown : (tags : List Part) (es : List Entry) → flat_map (shown_elements v tags) es ≡ flat_map (λ a. elements_in (kept_attributes a (selects tags))) (map (λ e. (show e).attrs) es)
  elements-shown tags [] = refl
  elements-shown tags (e ∷ es) = ap (λ xs. shown_elements v tags e ++ xs) (elements-shown tags es)

  -- what is gathered of them is what is joined
  pub joined-shown : (tags : List Part) (es : List Entry) → attributes_of (flat_map (shown_elements v tags) es) ≡ selected_attributes (joined_attributes (map (λ e. (show e).attrs) es)) tags
  joined-shown tags es = ap attributes_of (elements-shown tags es) ∙ joined-kept (map (λ e. (show e).attrs) es) tags

  module _ (language : List ℕ) where
    abbrev in_it : Entry → Bool
    in_it e = bytes_eq e.language language

    shown-in_order : (es arranged : List Entry) → AreInOrder (IsInAnd es in_it) arranged → AreInOrder (IsInAnd (map show es) in_it) (map show arranged)
    shown-in_order es arranged order = record {
      ordered = subst IsAscending (sym (urls-shown arranged)) order.ordered;
      each = λ e has.
          let k = mapped-from show arranged e has in
          let holds = order.each k.0 k.1 in
          subst (IsInAnd (map show es) in_it) k.2 (mapped-has show es k.0 holds.0, holds.1);
      all = λ e holds.
          let k = mapped-from show es e holds.0 in
          let spoken : IsTrue (in_it k.0) = subst (λ (x : Entry). IsTrue (in_it x)) (sym k.2) holds.1 in
          subst (Contains (map show arranged)) k.2 (mapped-has show arranged k.0 (order.all k.0 (k.1, spoken)));
    }

    -- what is shown of them is joined in the order of their URLs
    pub shown-joined : (es arranged : List Entry) (q : AttrQuery) (a : Attributes) → AreInOrder (IsInAnd es in_it) arranged
        → a ≡ selected_attributes (joined_attributes (map (λ e. (show e).attrs) arranged)) q.tags → AreJoined (IsInAnd (map show es) in_it) q a
    shown-joined es arranged q a order is = record {
      from = map show arranged;
      in_order = shown-in_order es arranged order;
      joined = is ∙ ap (λ all. selected_attributes (joined_attributes all) q.tags) (sym (attrs-shown arranged));
    }

    pub elsewhere-shown : (es : List Entry) → IsElsewhere (IsIn es) language → IsElsewhere (IsIn (map show es)) language
    elsewhere-shown es f = record {
      other = show f.other;
      matched = mapped-has show es f.other f.matched;
      none = λ e has. let k = mapped-from show es e has in subst (λ (x : Entry). in_it x ≡ false) k.2 (f.none k.0 k.1);
    }

    pub shown-elsewhere : (es : List Entry) → IsElsewhere (IsIn (map show es)) language → IsElsewhere (IsIn es) language
    shown-elsewhere es f =
        let k = mapped-from show es f.other f.matched in
        record { other = k.0; matched = k.1; none = λ e has. f.none (show e) (mapped-has show es e has) }
