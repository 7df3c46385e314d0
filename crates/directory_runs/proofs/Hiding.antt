-- What is kept from others is in nothing that they see.
use Rattle.std.proofs.Common.{◌≡◌, ◌≢◌, ℕ, Bool, true, false, cond, not, List, [], ◌∷◌, map, Option, Some, None, refl, sym, ap, ap₂, ◌∙◌}
use Rattle.std.specs.Prelude.{◌==◌, ◌&&◌, ◌||◌, filter, flat_map, Contains}
use Rattle.std.specs.FinMap as fin
use Rattle.std.specs.List.{list_any}
use Rattle.std.proofs.lemmas.Bool.{eqb-true}
use Rattle.std.proofs.lemmas.List.Folds.{list_any-append}
use Rattle.slp_text.proofs.KeySets.{bytes_same}
use Rattle.slp_tags.specs.Tags.{Part, selects}
use Rattle.slp_text.specs.Words.{bytes_eq}
use Rattle.attr_list.specs.Elements.{Element}
use Rattle.attr_list.specs.Lists.{Attributes, distinct_values, held_of, values_named}
use Rattle.attr_list.specs.Maps.{elements_in, joined_attributes, selected_attributes}
use Rattle.attr_list.specs.declared.held.Held.{Held}
use Rattle.attr_list.proofs.Gathered.{get-attributes_of}
use Rattle.attr_list.proofs.KeptAttributes.{elements-kept, get-kept, kept-twice}
use Rattle.access_rules.specs.Deciding.{Deed, SiteRules, allows_kind, allows_scope, deed, hides_in, is_hidden, is_hiding}
use Rattle.access_rules.specs.declared.rule.Action.TheVariants.{See}
use Rattle.registry_core.specs.declared.entry.Entry.{Entry}
use Rattle.directory_judge.specs.Meaning.{rules}
use Rattle.directory_questions.specs.Calls.{Standpoint}
use Rattle.directory_questions.specs.Items.{AreAttributesOf, IsDescribed, IsOpenNow}
use Rattle.directory_questions.specs.Sights.{asked_scopes, is_left_in, is_open_in, is_shown, seen_entry}
use Rattle.directory_questions.specs.declared.query.AttrQuery.{AttrQuery}
use Rattle.directory_state.proofs.OpenEntries.{some-list_any}
use Rattle.directory_state.proofs.SeenUrls.{here, there, no_other}
use Rattle.directory_state.proofs.ShownEntries.{kept-same}
use Rattle.directory_runs.specs.Hiding.{without_tag, IsKeptBack}

-- ---- tests

none-of : {A : Type 0} (p : A → Bool) (xs : List A) → ((x : A) → p x ≡ false) → list_any p xs ≡ false
none-of p [] none = refl
none-of p (x ∷ xs) none = ap₂ ◌||◌ (none x) (none-of p xs none)

unequal : (a b : ℕ) → a ≢ b → (a == b) ≡ false
unequal a b other = elim (a == b) as (λ t. (a == b) ≡ t → t ≡ false) [
  | true ↦ λ same. absurd (other (eqb-true a b same))
  | false ↦ λ _. refl
] refl

-- ---- what is kept from others is hidden from each of them

module _ (rs : SiteRules) (tag : List ℕ) (kept : IsKeptBack rs tag) (asker : ℕ) (e : Entry) (other : asker ≢ e.owner) where
  abbrev d : Deed
  d = deed asker See e.kind e.owner

  fits-each : (s : List ℕ) → is_hiding d s kept.table ≡ true
  fits-each s =
      let h = kept.table in
      ap₂ ◌&&◌ (ap₂ ◌&&◌ (ap₂ ◌&&◌ (kept.for_others.addresses asker) (ap (λ o. allows_kind o e.kind) kept.for_others.types)) (ap (λ o. allows_scope o s) kept.for_others.scopes))
      (ap (λ b. not (h.spares_owner && b)) (unequal asker e.owner other) ∙ spared h.spares_owner)
    where
      spared : (b : Bool) → not (b && false) ≡ true
      spared true = refl
      spared false = refl

  hidden-each : (s : List ℕ) → is_hidden rs d s tag ≡ true
  hidden-each s = some-list_any (λ h. is_hiding d s h && selects h.tags tag) (hides_in rs) kept.table kept.held (ap₂ ◌&&◌ (fits-each s) kept.selected)

  not-shown : (scopes : List (List ℕ)) → is_shown rs asker scopes e tag ≡ false
  not-shown scopes = none-of (is_left_in rs asker e tag) (filter (is_open_in rs asker e) scopes) (λ s. ap not (hidden-each s))

  -- the entry is seen as it would be without the tag
  pub seen-without : (scopes : List (List ℕ)) → seen_entry rs asker scopes (without_tag tag e) ≡ seen_entry rs asker scopes e
  seen-without scopes =
      let shown = is_shown rs asker scopes e in
      let same : (t : List ℕ) → (not (bytes_eq t tag) && shown t) ≡ shown t = λ t.
      elim (bytes_eq t tag) as (λ b. bytes_eq t tag ≡ b → (not b && shown t) ≡ shown t) [
        | true ↦ λ is. sym (ap shown (bytes_same t tag is) ∙ not-shown scopes)
        | false ↦ λ _. refl
      ] refl in
      ap (λ all. record e { attrs = all }) (kept-twice e.attrs (λ t. not (bytes_eq t tag)) shown ∙ kept-same e.attrs (λ t. not (bytes_eq t tag) && shown t) shown same)

-- no entry of another that is opened has the tag
pub not-had : (from : Standpoint) (asked : List (List ℕ)) (e : Entry) (tag : List ℕ) → IsKeptBack (rules from.opening.rules from.history) tag → IsOpenNow from asked e → from.asker ≢ e.owner
    → fin.get e.attrs tag ≡ None
not-had from asked e tag kept opened other =
    let rs = rules from.opening.rules from.history in
    let scopes = asked_scopes from.opening.site asked in
    let x = opened.entry in
    let whose : from.asker ≢ x.owner = λ same. other (same ∙ sym (ap (λ (y : Entry). y.owner) opened.seen)) in
    ap (λ (y : Entry). fin.get y.attrs tag) opened.seen ∙ get-kept x.attrs (is_shown rs from.asker scopes x) tag
    ∙ ap (λ b. cond b (fin.get x.attrs tag) None) (not-shown rs tag kept from.asker x whose scopes)

-- ---- what is joined

abbrev names : List ℕ → List Element → Bool
names tag es = list_any (λ e. bytes_eq e.tag tag) es

unnamed : (p : List ℕ → Bool) (tag : List ℕ) → p tag ≡ false → (es : List Element) → names tag (filter (λ e. p e.tag) es) ≡ false
unnamed p tag hidden [] = refl
unnamed p tag hidden (e ∷ es) =
    elim (p e.tag) as (λ b. p e.tag ≡ b → names tag (cond b (e ∷ filter (λ e. p e.tag) es) (filter (λ e. p e.tag) es)) ≡ false) [
      | true ↦ λ shown.
          let other : bytes_eq e.tag tag ≡ false = elim (bytes_eq e.tag tag) as (λ t. bytes_eq e.tag tag ≡ t → t ≡ false) [
            | true ↦ λ same. absurd (no_other (p e.tag) shown (ap p (bytes_same e.tag tag same) ∙ hidden))
            | false ↦ λ _. refl
          ] refl in
          ap₂ ◌||◌ other (unnamed p tag hidden es)
      | false ↦ λ _. unnamed p tag hidden es
    ] refl

module _ (from : Standpoint) (asked : List (List ℕ)) (tag : List ℕ) (kept : IsKeptBack (rules from.opening.rules from.history) tag) where
  abbrev rs : SiteRules
  rs = rules from.opening.rules from.history

  entry-unnamed : (e : Entry) → IsOpenNow from asked e → from.asker ≢ e.owner → names tag (elements_in e.attrs) ≡ false
  entry-unnamed e opened other =
      let x = opened.entry in
      let p = is_shown rs from.asker (asked_scopes from.opening.site asked) x in
      let whose : from.asker ≢ x.owner = λ same. other (same ∙ sym (ap (λ (y : Entry). y.owner) opened.seen)) in
      ap (λ (y : Entry). names tag (elements_in y.attrs)) opened.seen ∙ ap (names tag) (elements-kept x.attrs p)
      ∙ unnamed p tag (not-shown rs tag kept from.asker x whose (asked_scopes from.opening.site asked)) (elements_in x.attrs)

  all-unnamed : (es : List Entry) → ((e : Entry) → Contains es e → IsOpenNow from asked e × (from.asker ≢ e.owner)) → names tag (flat_map elements_in (map (λ e. e.attrs) es)) ≡ false
  all-unnamed [] each = refl
  all-unnamed (e ∷ es) each =
      let first = each e (here e es) in
      list_any-append (λ x. bytes_eq x.tag tag) (elements_in e.attrs) (flat_map elements_in (map (λ e. e.attrs) es))
      ∙ ap₂ ◌||◌ (entry-unnamed e first.0 first.1) (all-unnamed es (λ f has. each f (there e f es has)))

unjoined : (all : List Attributes) (tag : List ℕ) → names tag (flat_map elements_in all) ≡ false → fin.get (joined_attributes all) tag ≡ None
unfolding joined_attributes
unjoined all tag none = get-attributes_of (flat_map elements_in all) tag ∙ ap (λ b. cond b (Some (held_of (distinct_values (values_named tag (flat_map elements_in all))))) None) none

unselected : (a : Attributes) (tags : List Part) (tag : List ℕ) → fin.get a tag ≡ None → fin.get (selected_attributes a tags) tag ≡ None
unselected a tags tag none = get-kept a (selects tags) tag ∙ ap (λ o. cond (selects tags tag) o None) none ∙ both (selects tags tag)
  where
    both : (b : Bool) → ◌≡◌ {A = Option Held} (cond b None None) None
    both true = refl
    both false = refl

-- no reply about what others registered has the tag
pub not-told : (from : Standpoint) (q : AttrQuery) (a : Attributes) (tag : List ℕ) → IsKeptBack (rules from.opening.rules from.history) tag
    → ((e : Entry) → IsDescribed (IsOpenNow from q.scopes) q e → from.asker ≢ e.owner) → AreAttributesOf from q a → fin.get a tag ≡ None
not-told from q a tag kept others are =
    ap (λ b. fin.get b tag) are.joined
    ∙ unselected (joined_attributes (map (λ e. e.attrs) are.from)) q.tags tag
    (unjoined (map (λ e. e.attrs) are.from) tag
    (all-unnamed from q.scopes tag kept are.from (λ e has. let d = are.in_order.each e has in (d.matched.opened, others e d))))
