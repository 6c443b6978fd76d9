use Rattle.ifmap_core.specs.ifmap_machine.State.{session_seconds}
use Rattle.ifmap_drill.specs.Drills.{drill_history}
use Rattle.ifmap_drill.proofs.LinkElements.{link_element_is_metadata}
use Rattle.ifmap_drill.proofs.SoundDrills.{drill_sound}
use Rattle.ifmap_drill.proofs.laws.drills_agree.Goals as goal

pub returns-clause-legal : goal.returns-clause-legal
returns-clause-legal c = λ key count.
    (drill_sound c.mac_addresses_are_identifiers.ensures
    (link_element_is_metadata c.stamped_metadata_are_whole.ensures.made) key count).legal

pub returns-clause-fit : goal.returns-clause-fit
returns-clause-fit c = λ key count.
    (drill_sound c.mac_addresses_are_identifiers.ensures (link_element_is_metadata c.stamped_metadata_are_whole.ensures.made) key count).fit

pub returns-clause-agrees : goal.returns-clause-agrees
returns-clause-agrees c = λ key count.
    let sound =
    drill_sound c.mac_addresses_are_identifiers.ensures (link_element_is_metadata c.stamped_metadata_are_whole.ensures.made) key count in
    c.clients_fold_fresh_results.ensures session_seconds (drill_history key count) sound.legal sound.fit
