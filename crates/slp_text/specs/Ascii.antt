-- The characters of ASCII that have a meaning here, by name.
use Rattle.std.specs.Prelude.{ℕ, Bool, ◌&&◌, ◌||◌, nat_le, nat_lt, ◌==◌}

-- `b'\t'`
abbrev pub tab : ℕ
tab = 9

-- `b'\n'`
abbrev pub line_feed : ℕ
line_feed = 10

-- `b'\r'`
abbrev pub carriage_return : ℕ
carriage_return = 13

-- `b' '`
abbrev pub space : ℕ
space = 32

-- `b'!'`
abbrev pub exclamation_mark : ℕ
exclamation_mark = 33

-- `b'('`
abbrev pub left_parenthesis : ℕ
left_parenthesis = 40

-- `b')'`
abbrev pub right_parenthesis : ℕ
right_parenthesis = 41

-- `b'*'`
abbrev pub asterisk : ℕ
asterisk = 42

-- `b'+'`
abbrev pub plus_sign : ℕ
plus_sign = 43

-- `b','`
abbrev pub comma : ℕ
comma = 44

-- `b'-'`
abbrev pub hyphen : ℕ
hyphen = 45

-- `b'.'`
abbrev pub dot : ℕ
dot = 46

-- `b'0'`
abbrev pub digit_zero : ℕ
digit_zero = 48

-- `b'9'`
abbrev pub digit_nine : ℕ
digit_nine = 57

-- `b':'`
abbrev pub colon : ℕ
colon = 58

-- `b';'`
abbrev pub semicolon : ℕ
semicolon = 59

-- `b'<'`
abbrev pub less_than_sign : ℕ
less_than_sign = 60

-- `b'='`
abbrev pub equals_sign : ℕ
equals_sign = 61

-- `b'>'`
abbrev pub greater_than_sign : ℕ
greater_than_sign = 62

-- `b'A'`
abbrev pub upper_a : ℕ
upper_a = 65

-- `b'F'`
abbrev pub upper_f : ℕ
upper_f = 70

-- `b'Z'`
abbrev pub upper_z : ℕ
upper_z = 90

-- `b'\\'`
abbrev pub backslash : ℕ
backslash = 92

-- `b'_'`
abbrev pub underscore : ℕ
underscore = 95

-- `b'a'`
abbrev pub lower_a : ℕ
lower_a = 97

-- `b'f'`
abbrev pub lower_f : ℕ
lower_f = 102

-- `b'z'`
abbrev pub lower_z : ℕ
lower_z = 122

-- `b'~'`
abbrev pub tilde : ℕ
tilde = 126

-- `b'\x7f'`
abbrev pub delete : ℕ
delete = 127

-- the character is 0 to 9
abbrev pub is_digit : ℕ → Bool
is_digit c = nat_le digit_zero c && nat_le c digit_nine

-- the character is A to Z
abbrev pub is_upper : ℕ → Bool
is_upper c = nat_le upper_a c && nat_le c upper_z

-- the character is a to z
abbrev pub is_lower : ℕ → Bool
is_lower c = nat_le lower_a c && nat_le c lower_z

-- the character is a letter of ASCII
abbrev pub is_letter : ℕ → Bool
is_letter c = is_upper c || is_lower c

-- the character is a control character of ASCII
abbrev pub is_control : ℕ → Bool
is_control c = nat_lt c space || c == delete
