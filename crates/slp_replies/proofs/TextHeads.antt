-- What stands before a list of texts.
use Rattle.std.proofs.Common.{◌≡◌, ℕ, ◌+◌, Bool, true, false, List, [], ◌∷◌, ◌++◌, length, drop, refl, sym, ap, ap₂, ◌∙◌, arith, append_assoc}
use Rattle.std.specs.Prelude.{if◌then◌else◌}
use Rattle.byteorder.specs.Endian.{big_bytes}
use Rattle.std.proofs.lemmas.List.{drop-drop, length-append}
use Rattle.slp_headers.specs.Headers.{Heading, frame_bytes, word_of}
use Rattle.slp_headers.specs.declared.flag.TheConstants as flag
use Rattle.slp_wire.specs.Spelling.{plain_bytes}
use Rattle.directory_questions.specs.Cuts.{reply_header}
use Rattle.slp_replies.specs.TextLists.{form_end, form_function, head_bytes, listed_reply}
use Rattle.slp_replies.specs.declared.text_lists.Form.{Form}
use Rattle.slp_replies.specs.declared.text_lists.Form.TheVariants as form

-- four pieces that were written one after the other over what was there
pub filled : (old fixed tag code size new : List ℕ) → length fixed ≡ 14 → length code ≡ 2 → length size ≡ 2
    → new ≡ (((fixed ++ tag) ++ code) ++ size) ++ drop (length size) (drop (length code) (drop (length tag) (drop (length fixed) old)))
    → new ≡ (fixed ++ tag ++ code ++ size) ++ drop (18 + length tag) old
filled old fixed tag code size new a b c is =
    let first = drop-drop (length tag) (length fixed) old in
    let second = ap (drop (length code)) first ∙ drop-drop (length code) (length fixed + length tag) old in
    let third = ap (drop (length size)) second ∙ drop-drop (length size) (length fixed + length tag + length code) old in
    let all : length fixed + length tag + length code + length size ≡ 18 + length tag = omega (arith, a, b, c) in
    is ∙ ap (λ l. fixed ++ tag ++ code ++ size ++ l) (third ∙ ap (λ (j : ℕ). drop j old) all)

-- the same, as a message with this body
frame-is : (function flags : ℕ) (h : Heading) (is_cut : Bool) (total listed : ℕ) (rest : List ℕ) → (if is_cut then flag.OVERFLOW else 0) ≡ flags
    → total ≡ 14 + length h.language + length (big_bytes 2 0 ++ big_bytes 2 listed ++ rest)
    → head_bytes function h is_cut total listed ++ rest ≡ frame_bytes function flags h.xid h.language (big_bytes 2 0 ++ big_bytes 2 listed ++ rest)
frame-is function flags h is_cut total listed rest flags-are total-is =
    let before = λ (n w : ℕ) (l : List ℕ). (2 ∷ function ∷ big_bytes 3 n ++ big_bytes 2 w ++ big_bytes 3 0 ++ big_bytes 2 h.xid ++ big_bytes 2 (length h.language)) ++ l in
    ap₂ (λ n w. before n w (h.language ++ big_bytes 2 0 ++ big_bytes 2 listed ++ rest)) total-is flags-are
    ∙ ap (before (14 + length h.language + length (big_bytes 2 0 ++ big_bytes 2 listed ++ rest)) flags)
    (append_assoc (h.language ++ big_bytes 2 0) (big_bytes 2 listed) rest ∙ append_assoc h.language (big_bytes 2 0) (big_bytes 2 listed ++ rest))

drop-past : (a b : List ℕ) → drop (length a) (a ++ b) ≡ b
drop-past [] b = refl
drop-past (x ∷ a) b = drop-past a b

flags-of : (h : Heading) (is_cut : Bool) → (if is_cut then flag.OVERFLOW else 0) ≡ word_of (reply_header h is_cut).flags
flags-of h true = refl
flags-of h false = refl

module _ (h : Heading) (is_cut : Bool) (start list : List ℕ) (room : length start ≡ 18 + length h.language) where
  after : (end : List ℕ) → drop (18 + length h.language) (start ++ list ++ end) ≡ list ++ end
  after end = ap (drop (18 + length h.language)) (append_assoc start list end) ∙ ap (λ (n : ℕ). drop n (start ++ (list ++ end))) (sym room) ∙ drop-past start (list ++ end)

  size : (end : List ℕ) → length (start ++ list ++ end) ≡ 18 + length h.language + length (list ++ end)
  size end = omega (arith, room, length-append (start ++ list) end, length-append start list, length-append list end)

  -- a list that is filled in is the reply
  pub listed-whole : (f : Form) → head_bytes (form_function f) h is_cut (length (start ++ list ++ form_end f)) (length list) ++ drop (18 + length h.language) (start ++ list ++ form_end f) ≡ plain_bytes (listed_reply f h is_cut list)
  listed-whole form.Attributes =
      ap (λ l. head_bytes (form_function form.Attributes) h is_cut (length (start ++ list ++ 0 ∷ [])) (length list) ++ l) (after (0 ∷ []))
      ∙ frame-is (form_function form.Attributes) (word_of (reply_header h is_cut).flags) h is_cut (length (start ++ list ++ 0 ∷ [])) (length list) (list ++ 0 ∷ []) (flags-of h is_cut) (omega (arith, size (0 ∷ [])))
  listed-whole form.Types =
      ap (λ l. head_bytes (form_function form.Types) h is_cut (length (start ++ list ++ [])) (length list) ++ l) (after [])
      ∙ frame-is (form_function form.Types) (word_of (reply_header h is_cut).flags) h is_cut (length (start ++ list ++ [])) (length list) (list ++ []) (flags-of h is_cut) (omega (arith, size []))
