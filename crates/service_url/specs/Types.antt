-- Service types (RFC 2609, section 2; RFC 2608, section 4.1).
use Rattle.std.specs.Prelude.{ℕ, Bool, ◌==◌, ◌+◌, ◌-◌, ◌&&◌, ◌||◌, List, [], ◌∷◌, ◌++◌, length, take, drop, slice_index, codes, nat_eq, nat_lt, Option, Some, None, unwrap_or, Result, Ok, Err, if◌then◌else◌}
use Rattle.std.specs.List.{list_all, starts_with, before_first, after_first, position_or_len}
use Rattle.slp_text.specs.Ascii.{colon, dot, hyphen, plus_sign, underscore}
use Rattle.slp_text.specs.Keys.{key_of}
use Rattle.slp_text.specs.Words.{is_plain, bytes_eq}
use Rattle.service_url.specs.declared.fault.UrlFault.{UrlFault}
use Rattle.service_url.specs.declared.fault.UrlFault.TheVariants.{BadType}

-- letters, digits, `+`, `-`, `.` and `_`
abbrev pub is_name_byte : ℕ → Bool
is_name_byte b = is_plain b || b == plus_sign || b == hyphen || b == dot || b == underscore

-- a name of such characters that begins with a letter or a digit
abbrev pub is_name : List ℕ → Bool
is_name text = nat_lt 0 (length text) && is_plain (slice_index text 0) && list_all is_name_byte text

-- the byte is a colon
abbrev pub is_colon : ℕ → Bool
is_colon b = b == colon

-- `service:`
abbrev pub service_word : List ℕ
service_word = codes "service:"

-- the text begins with service:
abbrev pub is_service : List ℕ → Bool
is_service text = starts_with nat_eq text service_word

-- `service:A`, a type that others are made from
abbrev pub is_abstract : List ℕ → Bool
is_abstract text = is_service text && is_name (drop 8 text)

-- `service:A:C`
abbrev pub is_concrete : List ℕ → Bool
is_concrete text =
    is_service text && is_name (before_first is_colon (drop 8 text)) && is_name (after_first is_colon (drop 8 text))

-- what follows `service:`: a name, or two names with a colon in between
abbrev pub are_names : List ℕ → Bool
are_names rest = is_name rest || (is_name (before_first is_colon rest) && is_name (after_first is_colon rest))

-- the three forms of a folded type: the third is a name, as of another scheme
abbrev pub is_type : List ℕ → Bool
is_type text = is_abstract text || is_concrete text || is_name text

-- all but the last byte
abbrev pub text_without_last : List ℕ → List ℕ
text_without_last text = take (length text - 1) text

-- `service:A:`, whose last colon means nothing
abbrev pub is_abstract_with_colon : List ℕ → Bool
is_abstract_with_colon text = is_colon (slice_index text (length text - 1)) && is_abstract (text_without_last text)

-- the type that a text names, by its key
abbrev pub type_of : List ℕ → Result (List ℕ) UrlFault
type_of text =
    if is_abstract_with_colon (key_of text) then Ok (text_without_last (key_of text))
    else (if is_type (key_of text) then Ok (key_of text) else Err BadType)

-- `service:directory-agent`, the type of directory agents
abbrev pub directory_agent : List ℕ
directory_agent = codes "service:directory-agent"

-- `service:service-agent`, that of service agents, who alone answer for it
abbrev pub service_agent : List ℕ
service_agent = codes "service:service-agent"

-- the type is that of directory agents
abbrev pub is_directory_agent : List ℕ → Bool
is_directory_agent kind = bytes_eq kind directory_agent

-- the type is that of service agents
abbrev pub is_service_agent : List ℕ → Bool
is_service_agent kind = bytes_eq kind service_agent

-- A type covers itself, and an abstract one each that is made from it.
abbrev pub covers : List ℕ → List ℕ → Bool
covers kind other = bytes_eq kind other || (is_abstract kind && starts_with nat_eq other (kind ++ colon ∷ []))

-- the type that one is made from: `service:A` of `service:A` and `service:A:C`, else the type itself
abbrev pub root_of : List ℕ → List ℕ
root_of kind = if is_service kind then take (8 + position_or_len is_colon (drop 8 kind)) kind else kind

-- the byte is a dot
abbrev pub is_dot : ℕ → Bool
is_dot b = b == dot

-- A of `service:A` and `service:A:C`, where the type is one of these
abbrev pub service_name_of : List ℕ → Option (List ℕ)
service_name_of kind = if is_service kind then Some (before_first is_colon (drop 8 kind)) else None

-- A, else the whole type
abbrev pub main_name : List ℕ → List ℕ
main_name kind = unwrap_or (service_name_of kind) kind

-- a text that is not empty
abbrev pub some_text : List ℕ → Option (List ℕ)
some_text [] = None
some_text (b ∷ bs) = Some (b ∷ bs)

-- the naming authority: what follows the first dot of the name
abbrev pub authority_of : List ℕ → Option (List ℕ)
authority_of kind = some_text (after_first is_dot (main_name kind))

-- the naming authority that a text names, by its key
abbrev pub named_authority : List ℕ → Result (List ℕ) UrlFault
named_authority text =
    if nat_lt 0 (length (key_of text)) && list_all is_name_byte (key_of text) then Ok (key_of text) else Err BadType

-- the name A of a folded text that is A or `service:A`
abbrev pub service_by : List ℕ → Result (List ℕ) UrlFault
service_by k = if is_name k then Ok k else (if is_abstract k then Ok (drop 8 k) else Err BadType)

-- the name A that a text names, with or without `service:` before it, by its key (RFC 2609, section 4.1)
abbrev pub named_service : List ℕ → Result (List ℕ) UrlFault
named_service text = service_by (key_of text)
