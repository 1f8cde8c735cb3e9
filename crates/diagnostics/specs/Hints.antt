-- Hints about mistakes that newcomers make.
use Rattle.std.specs.Prelude.{ℕ, Bool, ◌==◌, ◌&&◌, ◌||◌, nat_eq, if◌then◌else◌, List, [], ◌∷◌, codes, Option, Some, None}
use Rattle.std.specs.List.{list_any, starts_with, ends_with}
use Rattle.std.specs.Str.{bytes_eq}

-- the end of the message for a size of 0
abbrev pub zero_hint : List ℕ → List ℕ
zero_hint key =
    if bytes_eq key (codes "queue") then codes "; 0, a SynchronousQueue, needs may_reject = true (docs/PATTERNS.md)"
    else (if bytes_eq key (codes "core") then codes "; write the number of threads that you want (docs/PATTERNS.md)"
    else codes "")

-- the key of a size that can be unbounded
abbrev pub can_be_unbounded : List ℕ → Bool
can_be_unbounded key = bytes_eq key (codes "max") || bytes_eq key (codes "queue")

-- whether a word with these letters says that a size has no limit
abbrev pub names_no_limit : List ℕ → Bool
names_no_limit letters =
    bytes_eq letters (codes "unbounded") || (bytes_eq letters (codes "unlimited") || (bytes_eq letters (codes "infinite")
    || (bytes_eq letters (codes "none") || (bytes_eq letters (codes "maxvalue") || bytes_eq letters (codes "integermaxvalue")))))

-- the end of the message for a text in place of a number; the text may say that the size has no limit
abbrev pub no_limit_hint : List ℕ → Bool → List ℕ
no_limit_hint key has_no_limit = if can_be_unbounded key && has_no_limit then codes "; did you mean \"unbounded\"?" else codes ""

-- the end of the message for a number above the largest valid one; the queue of the pool may have no limit
abbrev pub large_hint : List ℕ → Bool → List ℕ
large_hint key has_no_limit =
    if bytes_eq key (codes "queue") || (bytes_eq key (codes "max") && has_no_limit) then codes "; use \"unbounded\"" else codes ""

-- the end of the message for a maximum of `unbounded` in a pool with a bounded queue
abbrev pub unbounded_max_hint : List ℕ
unbounded_max_hint = codes "; max = \"unbounded\" needs queue = \"unbounded\""

-- the end of the message for a maximum that is less than core; empty if the queue of the pool is bounded
abbrev pub max_hint : Bool → List ℕ
max_hint is_unbounded = if is_unbounded then codes "; with queue = \"unbounded\" you can write max = \"unbounded\"" else codes ""

-- the indefinite article before the name of a type
abbrev pub article : List ℕ → List ℕ
article found = if bytes_eq found (codes "integer") || bytes_eq found (codes "array") then codes "an" else codes "a"

-- the hint if the first line of a text is that of a recording, of a certificate, of XML or HTML, or of YAML
abbrev pub kind_hint : List ℕ → Option (List ℕ)
kind_hint line =
    if bytes_eq line (codes "recording 1") then Some (codes "this is a recording, not a plan: `sizing learn` derives a plan from it")
    else (if starts_with nat_eq line (123 ∷ []) then Some (codes "this is JSON, not a plan: a certificate comes after its plan")
    else (if starts_with nat_eq line (60 ∷ []) then Some (codes "this is XML or HTML, not a plan: a plan begins with [[pool]]")
    else (if bytes_eq line (codes "---") || ends_with nat_eq line (58 ∷ []) then Some (codes "this is YAML, not a plan: a plan is TOML, and begins with [[pool]]")
    else None)))

-- the hint for a word without quotes as the value of this key
abbrev pub word_hint : List ℕ → Option (List ℕ)
word_hint key =
    if bytes_eq key (codes "name") || bytes_eq key (codes "pool") then Some (codes "write quotes around the value, as in pool = \"web\"")
    else (if bytes_eq key (codes "core") || bytes_eq key (codes "count") then Some (codes "write a number")
    else (if bytes_eq key (codes "max") || bytes_eq key (codes "queue") then Some (codes "write a number, or \"unbounded\" with its quotes")
    else (if bytes_eq key (codes "repeat") || (bytes_eq key (codes "prestart") || (bytes_eq key (codes "core_timeout") || bytes_eq key (codes "may_reject"))) then Some (codes "write true or false")
    else None)))

abbrev pub ends_with_semicolon : List ℕ → Bool
ends_with_semicolon line = ends_with nat_eq line (59 ∷ [])

-- whether the text has a comma or a semicolon
abbrev pub has_separator : List ℕ → Bool
has_separator text = list_any (λ b. b == 44) text || list_any (λ b. b == 59) text
