-- How long a reply to a request is, by the items that it takes.
use Rattle.std.proofs.Common.{◌<◌, length-take-le, inl, inr, sym, ◌≡◌, ℕ, ◌+◌, ◌≤◌, Bool, true, false, List, [], ◌∷◌, ◌++◌, length, take, Some, refl, ap, ap₂, subst, ◌∙◌, arith}
use Rattle.std.specs.Prelude.{◌==◌, ◌&&◌, not, nat_lt}
use Rattle.std.specs.List.{flat_map}
use Rattle.std.proofs.lemmas.Bool.{cases_lt, le-ltb}
use Rattle.std.proofs.lemmas.Bool.Decides.{nat_tests}
use Rattle.std.proofs.lemmas.List.{length-append}
use borrow.Author.Tests.{lt-ltb, ne_eqb}
use Rattle.slp_fields.specs.Spelling.{entry_bytes}
use Rattle.slp_wire.specs.Spelling.{plain_bytes, body_of}
use Rattle.slp_headers.specs.Headers.{Heading}
use Rattle.slp_messages.specs.declared.code.TheConstants.{OK}
use Rattle.slp_messages.specs.declared.message.UrlEntry.{UrlEntry}
use Rattle.slp_text.specs.Ascii.{comma}
use Rattle.slp_text.specs.Lists.{comma_list}
use Rattle.directory_judge.specs.declared.reason.Because.{Because}
use Rattle.directory_questions.specs.Answers.{IsCutReply}
use Rattle.directory_questions.specs.Outcomes.{Outcome, outcome, sent_of}
use Rattle.directory_state.specs.TypeRooms.{bytes_of, IsTypesFront}
use Rattle.slp_replies.proofs.TextFronts.{overfull-cut}
use Rattle.directory_questions.specs.Cuts.{IsCut, services_with, types_with}
use Rattle.directory_state.specs.Fronts.{IsFront, size_in}
use Rattle.directory_state.specs.declared.search.Room.{Room}
use Rattle.slp_answer.specs.ServiceReplies.{service_reply}

-- the bytes of these entries
abbrev pub size : List UrlEntry → ℕ
size es = length (flat_map (entry_bytes 0) es)

size_of_one : (e : UrlEntry) (es : List UrlEntry) → size (e ∷ es) ≡ length (entry_bytes 0 e) + size es
size_of_one e es = length-append (entry_bytes 0 e) (flat_map (entry_bytes 0) es)

pub reply_size : (h : Heading) (items : List UrlEntry) (k : ℕ) → length (plain_bytes (services_with h items k)) ≡ 18 + length h.language + size (take k items)
reply_size h items k =
    omega (arith, length-append h.language (body_of (services_with h items k)), length-append (flat_map (entry_bytes 0) (take k items)) [])

entry_size : (e : UrlEntry) → length (entry_bytes 0 e) ≡ 6 + length e.url
entry_size e = omega (arith, length-append e.url (0 ∷ []))

-- the room that entries take is that of their bytes
pub size_in-is : (room : Room) (items : List UrlEntry) → room.each ≡ 6 → size_in room items ≡ size items
size_in-is room [] six = refl
size_in-is room (e ∷ es) six = omega (arith, six, entry_size e, size_of_one e es, size_in-is room es six)

and_false : (b : Bool) → (b && false) ≡ false
and_false true = refl
and_false false = refl

and_true : (b : Bool) → (b && true) ≡ b
and_true true = refl
and_true false = refl

pub positive : (n : ℕ) → 0 < n → (n == 0) ≡ false
positive n h = grind (arith, nat_tests)

-- no items are found exactly where none is shown, and none left out
no_items : (count number shown : ℕ) → count ≤ number → shown ≡ count → (shown == 0 && not (nat_lt count number)) ≡ (number == 0)
no_items count number shown le is =
    elim (cases_lt count number) [
      | inl less ↦ ap (λ b. shown == 0 && not b) (lt-ltb count number less) ∙ and_false (shown == 0) ∙ sym (positive number (omega (arith, less)))
      | inr least ↦
          let same : shown ≡ number = omega (arith, le, is, least) in
          ap (λ b. shown == 0 && not b) (le-ltb count number least) ∙ and_true (shown == 0) ∙ ap (λ (n : ℕ). n == 0) same
    ]

module _ (h : Heading) (room : Room) (all items : List UrlEntry) (is_cut : Bool) (limit : ℕ) (whole : room.bytes + 18 + length h.language ≡ limit) (six : room.each ≡ 6) (front : IsFront room all items is_cut) where
  -- the reply with those for which there is room is the one that is cut to the limit
  pub front-cut : IsCut (length all) (services_with h all) limit (plain_bytes (service_reply h is_cut items))
  front-cut = record {
    count = front.count;
    within = front.within;
    fits = omega (arith, whole, front.fits, size_in-is room (take front.count all) six, reply_size h all front.count);
    longest = λ other within fits. front.longest other within (omega (arith, whole, fits, size_in-is room (take other all) six, reply_size h all other));
    spelled = ap₂ (λ (c : Bool) (is : List UrlEntry). plain_bytes (service_reply h c is)) front.more front.items_are;
  }

  pub front-empty : (length items == 0 && not is_cut) ≡ (length all == 0)
  front-empty =
      ap (λ (c : Bool). length items == 0 && not c) front.more
      ∙ no_items front.count (length all) (length items) front.within (ap (λ (is : List UrlEntry). length is) front.items_are ∙ length-take-le front.count all front.within)

-- a reply with what there is room for is within the limit
pub room-short : (h : Heading) (room : Room) (items : List UrlEntry) (is_cut : Bool) (limit : ℕ) → room.bytes + 18 + length h.language ≡ limit → room.each ≡ 6 → size_in room items ≤ room.bytes → length (plain_bytes (service_reply h is_cut items)) ≤ limit
room-short h room items is_cut limit whole six fits =
    omega (arith, whole, fits, size_in-is room items six, length-append h.language (body_of (service_reply h is_cut items)), length-append (flat_map (entry_bytes 0) items) [])

-- ---- lists of types

bytes_of-least : (ts : List (List ℕ)) → bytes_of ts ≤ length (comma_list ts)
bytes_of-least [] = omega arith
bytes_of-least (t ∷ []) = omega arith
bytes_of-least (t ∷ u ∷ ts) = omega (arith, bytes_of-least (u ∷ ts), length-append t (comma ∷ comma_list (u ∷ ts)))

none_neither : (limit : ℕ) (front rest : List (List ℕ)) → limit < bytes_of front → (length front == 0) ≡ (length (front ++ rest) == 0)
none_neither limit [] rest over = absurd (omega (arith, over))
none_neither limit (t ∷ front) rest over =
    ne_eqb (length (t ∷ front)) 0 (λ e. omega (arith, e)) ∙ sym (ne_eqb (length ((t ∷ front) ++ rest)) 0 (λ e. omega (arith, e, length-append (t ∷ front) rest)))

-- a reply with the first types, for which there is too little room, is the one with all
pub types-front-reply : (h : Heading) (limit : ℕ) (because : Because) (all front : List (List ℕ)) (r : Outcome) → IsTypesFront (Some limit) all front → IsCutReply (types_with h) limit h because front r → IsCutReply (types_with h) limit h because all r
types-front-reply h limit because all front r f c = elim f [
  | inl same ↦ subst (λ ts. IsCutReply (types_with h) limit h because ts r) same c
  | inr first ↦ subst (λ ts. IsCutReply (types_with h) limit h because ts r) (sym first.1.1) (record {
    whole = c.whole;
    cut = overfull-cut h limit front first.1.0 (omega (arith, first.0, bytes_of-least front)) c.whole c.cut;
    sent = c.sent ∙ ap (λ b. outcome (sent_of h OK b c.whole) OK because) (none_neither limit front first.1.0 first.0);
  })
]
