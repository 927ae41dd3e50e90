-- What the code's values stand for (own).
use Rattle.std.specs.Prelude.{◌≡◌, ◌≢◌, ℕ, List, map, Option, option_map, Result, Ok, Err, IfOk, IfErr, string_bytes}
use Rattle.std.specs.declared.vec.Vec.{Vec}
use Rattle.std.specs.declared.string.String.{String}
use Rattle.def_serve.specs.Requests as definition
use Rattle.def_serve.specs.Requests.{long_line, no_json, no_object, other_member, repeated_member, no_command, no_input, nested_serve, lacks_memory}
use Rattle.tn_serve.specs.declared.fault.RequestFault.{RequestFault}
use Rattle.tn_serve.specs.declared.fault.RequestFault.TheVariants.{LongLine, NoJson, NoObject, OtherMember, RepeatedMember, NoCommand, NoInput, NestedServe, Memory}
use Rattle.tn_serve.specs.declared.request.ServeRequest.{ServeRequest}
use Rattle.tn_serve.specs.declared.request.RequestParts.{RequestParts}

abbrev pub request_fault_seen : RequestFault → definition.RequestFault
request_fault_seen LongLine = long_line
request_fault_seen NoJson = no_json
request_fault_seen NoObject = no_object
request_fault_seen OtherMember = other_member
request_fault_seen RepeatedMember = repeated_member
request_fault_seen NoCommand = no_command
request_fault_seen NoInput = no_input
request_fault_seen NestedServe = nested_serve
request_fault_seen Memory = lacks_memory

abbrev pub request_seen : ServeRequest → definition.ServeRequest
request_seen r = record { command = map string_bytes r.command.items; input = string_bytes r.input }

-- the words of a command line, where there are any
abbrev pub words_seen : {A B : Type 0} → Option (Vec (String A) B) → Option (List (List ℕ))
words_seen words = option_map (λ v. map string_bytes v.items) words

abbrev pub parts_seen : RequestParts → definition.RequestParts
parts_seen p = record { command = words_seen p.command; input = option_map string_bytes p.input }

-- the outcome is the one that is defined, unless the system refused memory
pub record IsRequestOutcome {A B : Type 0} (seen : A → B) (r : Result A RequestFault) (defined : Result B definition.RequestFault) : Type 0 where
  pub ok : IfOk r (λ a. defined ≡ Ok (seen a))
  pub err : IfErr r (λ e. e ≢ Memory → defined ≡ Err (request_fault_seen e))
