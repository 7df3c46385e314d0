-- How long lists of texts are, and how long the replies that have them.
use Rattle.std.proofs.Common.{◌≡◌, ℕ, zero, suc, ◌+◌, ◌-◌, ◌<◌, ◌≤◌, Bool, true, false, cond, List, [], ◌∷◌, ◌++◌, length, take, Some, None, refl, sym, ap, ap₂, subst, ◌∙◌, arith, inl, inr, add-one, append_assoc}
use Rattle.std.specs.Prelude.{◌≢◌, nat_lt, slice_get}
use Rattle.std.proofs.lemmas.Bool.{cases_lt, le-ltb}
use Rattle.std.proofs.lemmas.List.{length-append, take_all}
use borrow.Author.Tests.{lt-ltb}
use Rattle.slp_headers.specs.Headers.{Heading}
use Rattle.slp_messages.specs.declared.message.AttributeReply.TheVariants as attribute_reply
use Rattle.slp_messages.specs.declared.message.Message.TheVariants as message
use Rattle.slp_messages.specs.declared.message.TypeReply.TheVariants as type_reply
use Rattle.slp_text.specs.Ascii.{comma}
use Rattle.slp_text.specs.Lists.{comma_list}
use Rattle.slp_wire.specs.Spelling.{body_of, plain_bytes}
use Rattle.directory_questions.specs.Cuts.{attributes_with, IsCut, reply_header, types_with}
use Rattle.slp_replies.specs.TextLists.{list_with, listed_with, written_next, IsListedFront, IsListedReply}
use Rattle.slp_replies.specs.declared.text_lists.Form.{Form}
use Rattle.slp_replies.specs.declared.text_lists.Form.TheVariants as form

-- ---- one text more

listed-last : (t : List ℕ) (u : List ℕ) (us : List (List ℕ)) → comma_list ((u ∷ us) ++ t ∷ []) ≡ comma_list (u ∷ us) ++ comma ∷ t
listed-last t u [] = refl
listed-last t u (v ∷ vs) = ap (λ xs. u ++ comma ∷ xs) (listed-last t v vs) ∙ sym (append_assoc u (comma ∷ comma_list (v ∷ vs)) (comma ∷ t))

next-written : (ts : List (List ℕ)) (t : List ℕ) → comma_list (ts ++ t ∷ []) ≡ comma_list ts ++ written_next (length ts) t
next-written [] t = refl
next-written (u ∷ us) t = listed-last t u us ∙ ap (λ b. comma_list (u ∷ us) ++ cond b (comma ∷ t) t) (sym (lt-ltb 0 (length (u ∷ us)) (omega arith)))

one_more : (texts : List (List ℕ)) (i : ℕ) (t : List ℕ) → slice_get texts i ≡ Some t → take (suc i) texts ≡ take i texts ++ t ∷ []
one_more [] i t is = cc
one_more (u ∷ us) zero t is = cc
one_more (u ∷ us) (suc i) t is = ap (λ xs. u ∷ xs) (one_more us i t is)

taken : (texts : List (List ℕ)) (i : ℕ) (t : List ℕ) → slice_get texts i ≡ Some t → length (take i texts) ≡ i
taken [] i t is = cc
taken (u ∷ us) zero t is = refl
taken (u ∷ us) (suc i) t is = ap suc (taken us i t is)

pub list-next : (texts : List (List ℕ)) (i : ℕ) (t : List ℕ) → slice_get texts i ≡ Some t → list_with texts (i + 1) ≡ list_with texts i ++ written_next i t
list-next texts i t is = ap (λ n. list_with texts n) (add-one i) ∙ ap comma_list (one_more texts i t is) ∙ next-written (take i texts) t ∙ ap (λ n. list_with texts i ++ written_next n t) (taken texts i t is)

-- ---- more texts are not shorter

plus_zero : (i : ℕ) → i + 0 ≡ i
plus_zero i = omega arith

plus_suc : (i d : ℕ) → i + suc d ≡ (i + d) + 1
plus_suc i d = omega arith

plus_rest : (i j : ℕ) → i ≤ j → i + (j - i) ≡ j
plus_rest i j le = omega (arith, le)

take-past : (texts : List (List ℕ)) (i : ℕ) → slice_get texts i ≡ None → take i texts ≡ take (suc i) texts
take-past [] zero none = refl
take-past [] (suc i) none = refl
take-past (u ∷ us) zero none = cc
take-past (u ∷ us) (suc i) none = ap (λ xs. u ∷ xs) (take-past us i none)

next-longer : (texts : List (List ℕ)) (i : ℕ) → length (list_with texts i) ≤ length (list_with texts (i + 1))
next-longer texts i =
    elim (slice_get texts i) as (λ o. slice_get texts i ≡ o → length (list_with texts i) ≤ length (list_with texts (i + 1))) [
      | None ↦ λ none. let same : list_with texts i ≡ list_with texts (i + 1) = ap comma_list (take-past texts i none) ∙ ap (λ n. list_with texts n) (sym (add-one i)) in omega (arith, ap (λ (l : List ℕ). length l) same)
      | Some t ↦ λ is. omega (arith, ap (λ (l : List ℕ). length l) (list-next texts i t is), length-append (list_with texts i) (written_next i t))
    ] refl

longer_by : (texts : List (List ℕ)) (i d : ℕ) → length (list_with texts i) ≤ length (list_with texts (i + d))
longer_by texts i zero = omega (arith, ap (λ (n : ℕ). length (list_with texts n)) (plus_zero i))
longer_by texts i (suc d) = omega (arith, longer_by texts i d, next-longer texts (i + d), ap (λ (n : ℕ). length (list_with texts n)) (plus_suc i d))

longer : (texts : List (List ℕ)) (i j : ℕ) → i ≤ j → length (list_with texts i) ≤ length (list_with texts j)
longer texts i j le = omega (arith, longer_by texts i (j - i), ap (λ (n : ℕ). length (list_with texts n)) (plus_rest i j le))

-- ---- fronts

pub cut_front : (room : ℕ) (texts : List (List ℕ)) (i : ℕ) (list : List ℕ) (is_cut : Bool) → i < length texts → list ≡ list_with texts i → length list ≤ room → room < length (list_with texts (i + 1)) → is_cut ≡ true
    → IsListedFront room texts list is_cut
cut_front room texts i list is_cut some is fits over cut = record {
  count = i;
  within = omega (arith, some);
  listed = is;
  more = cut ∙ sym (lt-ltb i (length texts) some);
  fits = fits;
  longest = λ other within short.
      elim (cases_lt i other) [
        | inl more ↦ absurd (let far = longer texts (i + 1) other (omega (arith, more)) in omega (arith, far, short, over))
        | inr least ↦ omega (arith, least)
      ];
}

pub whole_front : (room : ℕ) (texts : List (List ℕ)) (i : ℕ) (list : List ℕ) (is_cut : Bool) → length texts ≤ i → list ≡ list_with texts i → length list ≤ room → is_cut ≡ false → IsListedFront room texts list is_cut
whole_front room texts i list is_cut all is fits whole = record {
  count = length texts;
  within = omega arith;
  listed = is ∙ ap comma_list (take_all i texts all ∙ sym (take_all (length texts) texts (omega arith)));
  more = whole ∙ sym (le-ltb (length texts) (length texts) (omega arith));
  fits = fits;
  longest = λ other within short. within;
}

-- ---- replies

pub attributes_size : (h : Heading) (is_cut : Bool) (list : List ℕ) → length (plain_bytes (message.AttributeReply (reply_header h is_cut) (attribute_reply.Found list))) ≡ 19 + length h.language + length list
attributes_size h is_cut list =
    omega (arith, length-append h.language (body_of (message.AttributeReply (reply_header h is_cut) (attribute_reply.Found list))), length-append list (0 ∷ []))

pub types_size : (h : Heading) (is_cut : Bool) (list : List ℕ) → length (plain_bytes (message.TypeReply (reply_header h is_cut) (type_reply.Found list))) ≡ 18 + length h.language + length list
types_size h is_cut list =
    omega (arith, length-append h.language (body_of (message.TypeReply (reply_header h is_cut) (type_reply.Found list))), length-append list [])

module _ (h : Heading) (room limit : ℕ) (texts : List (List ℕ)) (list : List ℕ) (is_cut : Bool) (front : IsListedFront room texts list is_cut) where
  attributes-cut : room + 19 + length h.language ≡ limit → IsCut (length texts) (attributes_with h texts) limit (plain_bytes (message.AttributeReply (reply_header h is_cut) (attribute_reply.Found list)))
  attributes-cut whole = record {
    count = front.count;
    within = front.within;
    fits = omega (arith, whole, front.fits, ap (λ (l : List ℕ). length l) front.listed, attributes_size h (nat_lt front.count (length texts)) (list_with texts front.count));
    longest = λ other within fits. front.longest other within (omega (arith, whole, fits, attributes_size h (nat_lt other (length texts)) (list_with texts other)));
    spelled = ap₂ (λ (c : Bool) (l : List ℕ). plain_bytes (message.AttributeReply (reply_header h c) (attribute_reply.Found l))) front.more front.listed;
  }

  types-cut : room + 18 + length h.language ≡ limit → IsCut (length texts) (types_with h texts) limit (plain_bytes (message.TypeReply (reply_header h is_cut) (type_reply.Found list)))
  types-cut whole = record {
    count = front.count;
    within = front.within;
    fits = omega (arith, whole, front.fits, ap (λ (l : List ℕ). length l) front.listed, types_size h (nat_lt front.count (length texts)) (list_with texts front.count));
    longest = λ other within fits. front.longest other within (omega (arith, whole, fits, types_size h (nat_lt other (length texts)) (list_with texts other)));
    spelled = ap₂ (λ (c : Bool) (l : List ℕ). plain_bytes (message.TypeReply (reply_header h c) (type_reply.Found l))) front.more front.listed;
  }

-- a reply that lists what fits is the one that is cut to the limit
pub listed-cut : (f : Form) (h : Heading) (limit : ℕ) (texts : List (List ℕ)) (bytes : List ℕ) → IsListedReply f h limit texts bytes → IsCut (length texts) (listed_with f h texts) limit bytes
listed-cut form.Attributes h limit texts bytes r = subst (IsCut (length texts) (attributes_with h texts) limit) (sym r.spelled) (attributes-cut h r.room limit texts r.list r.is_cut r.front (omega (arith, r.whole)))
listed-cut form.Types h limit texts bytes r = subst (IsCut (length texts) (types_with h texts) limit) (sym r.spelled) (types-cut h r.room limit texts r.list r.is_cut r.front (omega (arith, r.whole)))

take_front : (n : ℕ) (xs ys : List (List ℕ)) → n ≤ length xs → take n (xs ++ ys) ≡ take n xs
take_front zero xs ys le = refl
take_front (suc n) [] ys le = absurd (omega (arith, le))
take_front (suc n) (x ∷ xs) ys le = ap (λ ts. x ∷ ts) (take_front n xs ys (omega (arith, le)))

-- where the first texts alone are more than the limit, the reply that lists them is the one that lists them all
module _ (h : Heading) (limit : ℕ) (front rest : List (List ℕ)) (over : limit < length (comma_list front)) where
  abbrev whole : List (List ℕ)
  whole = front ++ rest

  same_list : (n : ℕ) → n ≤ length front → length (list_with whole n) ≡ length (list_with front n)
  same_list n le = ap (λ ts. length (comma_list ts)) (take_front n front rest le)

  all-over : length (list_with front (length front)) ≡ length (comma_list front)
  all-over = ap (λ ts. length (comma_list ts)) (take_all (length front) front (omega arith))

  pub overfull-cut : (bytes : List ℕ) → IsCut (length front) (types_with h front) limit bytes → IsCut (length whole) (types_with h whole) limit bytes
  overfull-cut bytes cut =
      let long = length-append front rest in
      let short : cut.count < length front = elim (cases_lt cut.count (length front)) [
        | inl less ↦ less
        | inr more ↦ absurd (let all : length (list_with front cut.count) ≡ length (list_with front (length front)) = ap (λ n. length (list_with front n)) (omega (arith, more, cut.within)) in
            omega (arith, all, all-over, over, cut.fits, types_size h (nat_lt cut.count (length front)) (list_with front cut.count)))
      ] in
      record {
        count = cut.count;
        within = omega (arith, long, short);
        fits = omega (arith, cut.fits, types_size h (nat_lt cut.count (length front)) (list_with front cut.count), types_size h (nat_lt cut.count (length whole)) (list_with whole cut.count), same_list cut.count (omega (arith, short)));
        longest = λ other within fits. elim (cases_lt (length front) other) [
          | inl more ↦ absurd (omega (arith, longer whole (length front) other (omega (arith, more)), same_list (length front) (omega arith), all-over, over, fits, types_size h (nat_lt other (length whole)) (list_with whole other)))
          | inr least ↦ cut.longest other least (omega (arith, fits, same_list other least, types_size h (nat_lt other (length whole)) (list_with whole other), types_size h (nat_lt other (length front)) (list_with front other)))
        ];
        spelled = cut.spelled ∙ ap₂ (λ (c : Bool) (l : List ℕ). plain_bytes (message.TypeReply (reply_header h c) (type_reply.Found l)))
            (lt-ltb cut.count (length front) short ∙ sym (lt-ltb cut.count (length whole) (omega (arith, long, short)))) (ap comma_list (sym (take_front cut.count front rest (omega (arith, short)))));
      }

-- it is never empty
pub listed-some : (f : Form) (h : Heading) (limit : ℕ) (texts : List (List ℕ)) (bytes : List ℕ) → IsListedReply f h limit texts bytes → bytes ≢ []
listed-some form.Attributes h limit texts bytes r = λ e. let k = sym r.spelled ∙ e in cc
listed-some form.Types h limit texts bytes r = λ e. let k = sym r.spelled ∙ e in cc
