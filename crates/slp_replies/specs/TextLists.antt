-- Texts that are listed with commas, from the front as many as there is room for.
use Rattle.std.specs.Prelude.{◌≡◌, ℕ, ◌≤◌, ◌+◌, Bool, nat_lt, if◌then◌else◌, List, [], ◌∷◌, ◌++◌, length, take}
use Rattle.byteorder.specs.Endian.{big_bytes}
use Rattle.slp_headers.specs.Headers.{Heading, heading_bytes}
use Rattle.slp_headers.specs.declared.flag.TheConstants as flag
use Rattle.slp_messages.specs.declared.function.TheConstants as function
use Rattle.slp_messages.specs.declared.message.AttributeReply.TheVariants as attribute_reply
use Rattle.slp_messages.specs.declared.message.Message.{Message}
use Rattle.slp_messages.specs.declared.message.Message.TheVariants as message
use Rattle.slp_messages.specs.declared.message.TypeReply.TheVariants as type_reply
use Rattle.slp_text.specs.Ascii.{comma}
use Rattle.slp_text.specs.Lists.{comma_list}
use Rattle.slp_wire.specs.Spelling.{plain_bytes}
use Rattle.directory_questions.specs.Cuts.{attributes_with, reply_header, types_with}
use Rattle.slp_replies.specs.declared.text_lists.Form.{Form}
use Rattle.slp_replies.specs.declared.text_lists.Form.TheVariants as form

-- what the text at a place adds to a list
abbrev pub written_next : ℕ → List ℕ → List ℕ
written_next place text = if nat_lt 0 place then comma ∷ text else text

-- the list of the first so many texts
abbrev pub list_with : List (List ℕ) → ℕ → List ℕ
list_with texts count = comma_list (take count texts)

-- the list of the longest front of the texts for which there is room, and whether that is not all
pub record IsListedFront (room : ℕ) (texts : List (List ℕ)) (list : List ℕ) (is_cut : Bool) : Type 0 where
  pub count : ℕ
  pub within : count ≤ length texts
  pub listed : list ≡ list_with texts count
  pub more : is_cut ≡ nat_lt count (length texts)
  pub fits : length list ≤ room
  pub longest : (other : ℕ) → other ≤ length texts → length (list_with texts other) ≤ room → other ≤ count

-- the same, appended to what was there
pub record IsAppendedFront (room : ℕ) (texts : List (List ℕ)) (old new : List ℕ) (is_cut : Bool) : Type 0 where
  pub list : List ℕ
  pub appended : new ≡ old ++ list
  pub front : IsListedFront room texts list is_cut

-- the reply of a form that lists so
abbrev pub listed_reply : Form → Heading → Bool → List ℕ → Message
listed_reply form.Attributes h is_cut list = message.AttributeReply (reply_header h is_cut) (attribute_reply.Found list)
listed_reply form.Types h is_cut list = message.TypeReply (reply_header h is_cut) (type_reply.Found list)

-- the reply of a form with the first so many texts
abbrev pub listed_with : Form → Heading → List (List ℕ) → ℕ → Message
listed_with form.Attributes = attributes_with
listed_with form.Types = types_with

-- what comes after the list: no authentication block, where there can be some
abbrev pub form_end : Form → List ℕ
form_end form.Attributes = 0 ∷ []
form_end form.Types = []

-- the number of its function
abbrev pub form_function : Form → ℕ
form_function form.Attributes = function.ATTRIBUTE_REPLY
form_function form.Types = function.TYPE_REPLY

-- what stands before a list of this length, in a reply of so many bytes
abbrev pub head_bytes : ℕ → Heading → Bool → ℕ → ℕ → List ℕ
head_bytes function h is_cut total length_of_list =
    heading_bytes (record { version = 2; function = function; length = total; flags = if is_cut then flag.OVERFLOW else 0; extension = 0; xid = h.xid; language = h.language })
    ++ big_bytes 2 0 ++ big_bytes 2 length_of_list

-- the reply of a form with as many of the texts from the front as fit the limit
pub record IsListedReply (f : Form) (h : Heading) (limit : ℕ) (texts : List (List ℕ)) (bytes : List ℕ) : Type 0 where
  pub room : ℕ
  pub list : List ℕ
  pub is_cut : Bool
  pub whole : room + 18 + length (form_end f) + length h.language ≡ limit
  pub front : IsListedFront room texts list is_cut
  pub spelled : bytes ≡ plain_bytes (listed_reply f h is_cut list)
