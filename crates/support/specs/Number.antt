-- The numbers of the faults. All other definitions and the code use the constants.
use Rattle.std.specs.Prelude.{◌≡◌}
use Rattle.support.specs.declared.number.TheConstants as fault

-- the number of each fault, as documented
pub record FaultNumbersAreStated : Type 0 where
  pub not_toml : fault.NOT_TOML ≡ 1
  pub too_many : fault.TOO_MANY ≡ 2
  pub unknown_key : fault.UNKNOWN_KEY ≡ 3
  pub missing_key : fault.MISSING_KEY ≡ 4
  pub wrong_type : fault.WRONG_TYPE ≡ 5
  pub bad_name : fault.BAD_NAME ≡ 6
  pub double_name : fault.DOUBLE_NAME ≡ 7
  pub bad_number : fault.BAD_NUMBER ≡ 8
  pub no_such_pool : fault.NO_SUCH_POOL ≡ 9
  pub no_such_class : fault.NO_SUCH_CLASS ≡ 10
  pub bad_action : fault.BAD_ACTION ≡ 11
  pub slot_open : fault.SLOT_OPEN ≡ 12
  pub slot_empty : fault.SLOT_EMPTY ≡ 13
  pub memory : fault.MEMORY ≡ 20
  pub not_json : fault.NOT_JSON ≡ 30
  pub wrong_shape : fault.WRONG_SHAPE ≡ 31
  pub weight_too_large : fault.WEIGHT_TOO_LARGE ≡ 32
  pub version : fault.VERSION ≡ 33
  pub cert_too_long : fault.CERT_TOO_LONG ≡ 34
  pub run_too_large : fault.RUN_TOO_LARGE ≡ 40
  pub strange : fault.STRANGE ≡ 41
  pub mixed : fault.MIXED ≡ 42
  pub gate : fault.GATE ≡ 43
  pub no_separator : fault.NO_SEPARATOR ≡ 50
  pub bad_event : fault.BAD_EVENT ≡ 51
  pub input_too_long : fault.INPUT_TOO_LONG ≡ 52
  pub bad_recording : fault.BAD_RECORDING ≡ 53
  pub read_failed : fault.READ_FAILED ≡ 60
  pub write_failed : fault.WRITE_FAILED ≡ 61
