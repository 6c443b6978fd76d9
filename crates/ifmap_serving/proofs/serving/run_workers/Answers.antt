use denote.Param.Send.{sendable}
use Rattle.std.proofs.Crossing.{crosses}
use Rattle.ifmap_hall.proofs.hall.Pass.TheSendSync as Pass
use Rattle.ifmap_serving.proofs.Sending.{fit_send, machine_send}
use Rattle.ifmap_serving.proofs.serving.run_workers.Goals as goal

pub for_each_mut-requires-send-T : goal.for_each_mut-requires-send-T
for_each_mut-requires-send-T g c κs within = search (Pass.the_send, machine_send, fit_send, crosses, sendable) depth 60 fits 20000
