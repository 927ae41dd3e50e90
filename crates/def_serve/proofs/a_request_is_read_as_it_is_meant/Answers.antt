use Rattle.def_serve.proofs.ReadRequests.{request_is_read, line_has_memory}
use Rattle.def_serve.proofs.a_request_is_read_as_it_is_meant.Goals as goal

pub returns : goal.returns
returns c = record { request = request_is_read; memory = line_has_memory }
