-- Values are read from left to right, without an empty last one.
use Rattle.std.proofs.Common.{◌≡◌, ℕ, Bool, true, false, cond, ◌==◌, List, [], ◌∷◌, ◌++◌, length, chars, Option, Some, None, Result, Ok, Err, refl, sym, ap, ◌∙◌, append_assoc}
use Rattle.std.specs.Prelude.{is_some, unwrap_or, IsUtf8}
use Rattle.std.proofs.lemmas.Option.{none-some}
use Rattle.std.specs.List.{list_all}
use Rattle.std.specs.Result.{result_ok}
use Rattle.std.proofs.Common.{inl, inr}
use Rattle.std.specs.Prelude.{◌⊎◌}
use Rattle.std.proofs.lemmas.Bool.{false≢true, true≢false}
use Rattle.slp_text.specs.Ascii.{comma}
use Rattle.slp_text.specs.Keys.{is_white, trim_start}
use Rattle.slp_text.specs.Reading.{read_all, read_map, read_then}
use denote.Ref.{Bor}
use Rattle.attr_values.specs.Rests.{rest_of}
use Rattle.attr_values.specs.Values.{value_of}
use Rattle.attr_values.specs.declared.fault.AttrFault.{AttrFault}
use Rattle.attr_values.specs.declared.value.Value.{Value}
use Rattle.attr_list.specs.Pieces.{part_after, part_before}
use Rattle.attr_list.proofs.CutTexts.{by_test, empty-chars, some-chars}
use Rattle.attr_list.proofs.ReadLists.{rest_parts, split_parts}
use Rattle.template_files.specs.Reading.{without_blank_end}

-- ---- white space alone

trimmed_away : (cs : List ℕ) → trim_start cs ≡ [] → list_all is_white cs ≡ true
trimmed_away [] h = refl
trimmed_away (c ∷ cs) h = by_test (is_white c) (λ t. rw t (trimmed_away cs (rw t at h))) (λ f. let k : c ∷ cs ≡ [] = rw f at h in cc)

not_trimmed : (cs : List ℕ) → (trim_start cs ≡ [] → ⊥) → list_all is_white cs ≡ false
not_trimmed [] h = absurd (h refl)
not_trimmed (c ∷ cs) h = by_test (is_white c) (λ t. rw t (not_trimmed cs (λ e. h (rw t e)))) (λ f. rw f refl)

pub white-trimmed : (text trimmed : List ℕ) (empty : Bool) → IsUtf8 trimmed → chars trimmed ≡ trim_start (chars text) → empty ≡ (length trimmed == 0) → empty ≡ list_all is_white (chars text)
white-trimmed text trimmed empty u is e =
    by_test (length trimmed == 0)
    (λ t. e ∙ t ∙ sym (trimmed_away (chars text) (sym is ∙ empty-chars trimmed u t)))
    (λ f. e ∙ f ∙ sym (not_trimmed (chars text) (λ none. some-chars trimmed u f (is ∙ none))))

-- ---- values

-- those that were read, and those that are left, are all
abbrev pub AreSoFar : Result (List Value) AttrFault → List Value → Option (List ℕ) → Type 0
AreSoFar all done rest = all ≡ read_map (λ vs. done ++ vs) (read_all value_of (without_blank_end (rest_parts rest)))

-- a first value, and those that are left after it
abbrev first_then : Option (List ℕ) → Result Value AttrFault → Result (List Value) AttrFault
first_then rest r = read_then (λ v. read_map (λ vs. v ∷ vs) (read_all value_of (without_blank_end (rest_parts rest)))) r

-- a part that is read: another comes after it, or it is not white space alone
first_read : (t : List ℕ) (rest : Option (List ℕ)) → (is_some rest ≡ true) ⊎ (list_all is_white t ≡ false) → read_all value_of (without_blank_end (t ∷ rest_parts rest)) ≡ first_then rest (value_of t)
first_read t None (inl some) = absurd (false≢true some)
first_read t None (inr filled) = ap (λ b. read_all value_of (cond b [] (t ∷ []))) filled
first_read t (Some more) h = rw (split_parts more) refl

-- none is read of white space at the end
none_read : (t : List ℕ) (rest : Option (List ℕ)) → is_some rest ≡ false → list_all is_white t ≡ true → without_blank_end (t ∷ rest_parts rest) ≡ without_blank_end (rest_parts rest)
none_read t None last white = ap (λ b. cond b [] (t ∷ [])) white
none_read t (Some more) last white = absurd (true≢false last)

-- what is left begins with a part
parts_of : (o rest : Option (List ℕ)) (cs t : List ℕ) → o ≡ Some cs → t ≡ part_before comma cs → rest ≡ part_after comma cs → rest_parts o ≡ t ∷ rest_parts rest
parts_of o rest cs t is before after = ap rest_parts is ∙ split_parts cs ∙ ap (λ u. u ∷ rest_parts (part_after comma cs)) (sym before) ∙ ap (λ p. t ∷ rest_parts p) (sym after)

more_done : (done : List Value) (v : Value) (r : Result (List Value) AttrFault) → read_map (λ vs. done ++ vs) (read_map (λ vs. v ∷ vs) r) ≡ read_map (λ vs. (done ++ v ∷ []) ++ vs) r
more_done done v (Ok vs) = ap Ok (sym (append_assoc done (v ∷ []) vs))
more_done done v (Err e) = refl

ok_of : (v : Value) (r : Result Value AttrFault) → Some v ≡ result_ok r → r ≡ Ok v
ok_of v (Ok w) h = ap (λ o. Ok (unwrap_or o v)) (sym h)
ok_of v (Err e) h = absurd (none-some v (sym h))

none_done : (done : List Value) (rest : Option (List ℕ)) (r : Result Value AttrFault) → None ≡ result_ok r → None ≡ result_ok (read_map (λ vs. done ++ vs) (first_then rest r))
none_done done rest (Ok v) h = absurd (none-some v h)
none_done done rest (Err e) h = refl

module _ (all : Result (List Value) AttrFault) (done : List Value) (o rest : Option (List ℕ)) (cs t : List ℕ) (h : AreSoFar all done o) (is : o ≡ Some cs) (before : t ≡ part_before comma cs) (after : rest ≡ part_after comma cs) where
  read-first : (is_some rest ≡ true) ⊎ (list_all is_white t ≡ false) → all ≡ read_map (λ vs. done ++ vs) (first_then rest (value_of t))
  read-first some = h ∙ ap (λ ps. read_map (λ vs. done ++ vs) (read_all value_of (without_blank_end ps))) (parts_of o rest cs t is before after) ∙ ap (read_map (λ vs. done ++ vs)) (first_read t rest some)

  -- a value that is read is one more
  pub value-more : (v : Value) (new : List Value) → (is_some rest ≡ true) ⊎ (list_all is_white t ≡ false) → Some v ≡ result_ok (value_of t) → new ≡ done ++ v ∷ [] → AreSoFar all new rest
  value-more v new some found more =
      read-first some ∙ ap (λ r. read_map (λ vs. done ++ vs) (first_then rest r)) (ok_of v (value_of t) found) ∙ more_done done v (read_all value_of (without_blank_end (rest_parts rest)))
      ∙ ap (λ xs. read_map (λ vs. xs ++ vs) (read_all value_of (without_blank_end (rest_parts rest)))) (sym more)

  -- what is no value stops it
  pub value-none : (is_some rest ≡ true) ⊎ (list_all is_white t ≡ false) → None ≡ result_ok (value_of t) → None ≡ result_ok all
  value-none some bad = none_done done rest (value_of t) bad ∙ ap result_ok (sym (read-first some))

  -- white space at the end is no value
  pub value-skipped : is_some rest ≡ false → list_all is_white t ≡ true → AreSoFar all done rest
  value-skipped last white = h ∙ ap (λ ps. read_map (λ vs. done ++ vs) (read_all value_of ps)) (ap without_blank_end (parts_of o rest cs t is before after) ∙ none_read t rest last white)

-- that another part comes, of what is lent
pub more_of : (o : Option (Bor (List ℕ))) → is_some (rest_of o) ≡ is_some o
more_of None = refl
more_of (Some t) = refl
