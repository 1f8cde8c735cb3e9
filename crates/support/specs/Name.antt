-- The names of the faults by their numbers, and the start of the text of a fault.
use Rattle.std.specs.Prelude.{ℕ, ◌==◌, ◌++◌, List, if◌then◌else◌, codes, decimal}
use Rattle.support.specs.declared.number.TheConstants.{NOT_TOML, TOO_MANY, UNKNOWN_KEY, MISSING_KEY, WRONG_TYPE, BAD_NAME, DOUBLE_NAME, BAD_NUMBER, NO_SUCH_POOL, NO_SUCH_CLASS, BAD_ACTION, SLOT_OPEN, SLOT_EMPTY, MEMORY, NOT_JSON, WRONG_SHAPE, WEIGHT_TOO_LARGE, VERSION, CERT_TOO_LONG, RUN_TOO_LARGE, STRANGE, MIXED, GATE, NO_SEPARATOR, BAD_EVENT, INPUT_TOO_LONG, BAD_RECORDING, READ_FAILED, WRITE_FAILED}

-- the name of the fault with this number; `Unknown` if no fault has it
abbrev pub name_of : ℕ → List ℕ
name_of number =
    if number == NOT_TOML then codes "NotToml" else (
    if number == TOO_MANY then codes "TooMany" else (
    if number == UNKNOWN_KEY then codes "UnknownKey" else (
    if number == MISSING_KEY then codes "MissingKey" else (
    if number == WRONG_TYPE then codes "WrongType" else (
    if number == BAD_NAME then codes "BadName" else (
    if number == DOUBLE_NAME then codes "DoubleName" else (
    if number == BAD_NUMBER then codes "BadNumber" else (
    if number == NO_SUCH_POOL then codes "NoSuchPool" else (
    if number == NO_SUCH_CLASS then codes "NoSuchClass" else (
    if number == BAD_ACTION then codes "BadAction" else (
    if number == SLOT_OPEN then codes "SlotOpen" else (
    if number == SLOT_EMPTY then codes "SlotEmpty" else (
    if number == MEMORY then codes "Memory" else (
    if number == NOT_JSON then codes "NotJson" else (
    if number == WRONG_SHAPE then codes "WrongShape" else (
    if number == WEIGHT_TOO_LARGE then codes "WeightTooLarge" else (
    if number == VERSION then codes "Version" else (
    if number == CERT_TOO_LONG then codes "CertTooLong" else (
    if number == RUN_TOO_LARGE then codes "RunTooLarge" else (
    if number == STRANGE then codes "Strange" else (
    if number == MIXED then codes "Mixed" else (
    if number == GATE then codes "Gate" else (
    if number == NO_SEPARATOR then codes "NoSeparator" else (
    if number == BAD_EVENT then codes "BadEvent" else (
    if number == INPUT_TOO_LONG then codes "InputTooLong" else (
    if number == BAD_RECORDING then codes "BadRecording" else (
    if number == READ_FAILED then codes "ReadFailed" else (
    if number == WRITE_FAILED then codes "WriteFailed" else (
    codes "Unknown")))))))))))))))))))))))))))))

-- the start of the text of a fault: `fault NUMBER NAME`
abbrev pub head : ℕ → List ℕ
head number = codes "fault " ++ decimal number ++ codes " " ++ name_of number
