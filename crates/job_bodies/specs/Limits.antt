-- The documented values of the limits. All other definitions and the code use the constants.
use Rattle.std.specs.Prelude.{◌≡◌}
use Rattle.support.specs.declared.line_number.TheConstants.{MAX_LINE_NUMBER}
use Rattle.job_bodies.specs.declared.limits.TheConstants.{MAX_POOLS, MAX_CLASSES, MAX_CLIENT_KINDS, MAX_ACTIONS, MAX_SIZE, MAX_THREADS, MAX_WORK, MAX_NAME_BYTES, MAX_WEIGHT, MAX_PLAN_BYTES, MAX_CERT_BYTES, MAX_EVENT_BYTES, MAX_INPUT_BYTES, MAX_RECORDED_BYTES, MAX_RECORDED_ROUNDS, MAX_WORKERS, DEFAULT_WORKERS, MAX_ROUNDS, MAX_STATES, DEFAULT_STATES, MAX_RUN_CLIENTS, MAX_RUN_CARRIERS, MAX_RUN_EVENTS}

-- the limits of a plan and of its numbers, and of the weights of a certificate
pub record PlanLimitsAreStated : Type 0 where
  pub pools : MAX_POOLS ≡ 64
  pub classes : MAX_CLASSES ≡ 256
  pub clients : MAX_CLIENT_KINDS ≡ 256
  pub actions : MAX_ACTIONS ≡ 256
  pub size : MAX_SIZE ≡ 1000000
  pub threads : MAX_THREADS ≡ 268435455
  pub work : MAX_WORK ≡ 1000000
  pub name : MAX_NAME_BYTES ≡ 32
  pub weight : MAX_WEIGHT ≡ 1000000000

-- the limits of texts, of numbers in lines, and of recordings
pub record TextLimitsAreStated : Type 0 where
  pub plan : MAX_PLAN_BYTES ≡ 1048576
  pub certificate : MAX_CERT_BYTES ≡ 1048576
  pub events : MAX_EVENT_BYTES ≡ 1048576
  pub input : MAX_INPUT_BYTES ≡ 2097155
  pub recorded : MAX_RECORDED_BYTES ≡ 268435456
  pub number : MAX_LINE_NUMBER ≡ 1000000000
  pub recorded_rounds : MAX_RECORDED_ROUNDS ≡ 1000000001

-- the limits and defaults of searches and checks, and the limits of runs
pub record RunLimitsAreStated : Type 0 where
  pub workers : MAX_WORKERS ≡ 64
  pub workers_unsaid : DEFAULT_WORKERS ≡ 4
  pub rounds : MAX_ROUNDS ≡ 1000000
  pub states : MAX_STATES ≡ 10000000
  pub states_unsaid : DEFAULT_STATES ≡ 100000
  pub clients : MAX_RUN_CLIENTS ≡ 64
  pub threads : MAX_RUN_CARRIERS ≡ 64
  pub events : MAX_RUN_EVENTS ≡ 1000000
