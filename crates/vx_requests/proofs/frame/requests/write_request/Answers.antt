use Rattle.vx_requests.proofs.frame.requests.write_request.Goals as goal

pub returns-in-WriteImage-clause-written : goal.returns-in-WriteImage-clause-written
returns-in-WriteImage-clause-written g c = rw c.in-WriteImage.is c.write_write_image.ensures

pub returns-in-WriteImagePgm-clause-written : goal.returns-in-WriteImagePgm-clause-written
returns-in-WriteImagePgm-clause-written g c =
    rw c.in-WriteImagePgm.is c.write_write_image_pgm.ensures

pub returns-in-ReadImage-clause-written : goal.returns-in-ReadImage-clause-written
returns-in-ReadImage-clause-written g c =
    rw c.in-ReadImage.is c.write_reference-in-ReadImage.ensures

pub returns-in-ReadImagePgm-clause-written : goal.returns-in-ReadImagePgm-clause-written
returns-in-ReadImagePgm-clause-written g c =
    rw c.in-ReadImagePgm.is c.write_reference-in-ReadImagePgm.ensures

pub returns-in-SetValid-clause-written : goal.returns-in-SetValid-clause-written
returns-in-SetValid-clause-written g c = rw c.in-SetValid.is c.write_set_valid.ensures

pub returns-in-Release-clause-written : goal.returns-in-Release-clause-written
returns-in-Release-clause-written g c = rw c.in-Release.is c.write_name.ensures

pub returns-in-ReadDistribution-clause-written : goal.returns-in-ReadDistribution-clause-written
returns-in-ReadDistribution-clause-written g c =
    rw c.in-ReadDistribution.is c.write_name-in-ReadDistribution.ensures

pub returns-in-ReadMinMax-clause-written : goal.returns-in-ReadMinMax-clause-written
returns-in-ReadMinMax-clause-written g c = rw c.in-ReadMinMax.is c.write_name-in-ReadMinMax.ensures

pub returns-in-AgeDelay-clause-written : goal.returns-in-AgeDelay-clause-written
returns-in-AgeDelay-clause-written g c = rw c.in-AgeDelay.is c.write_name-in-AgeDelay.ensures

pub returns-in-CreateVirtualImage-clause-written : goal.returns-in-CreateVirtualImage-clause-written
returns-in-CreateVirtualImage-clause-written g c =
    rw c.in-CreateVirtualImage.is
    (rw c.partial_desc_bytes-partial_desc.ensures at c.write_named.ensures)

pub returns-in-AddNode-clause-written : goal.returns-in-AddNode-clause-written
returns-in-AddNode-clause-written g c =
    rw c.in-AddNode.is (rw c.node_bytes-node.ensures at c.write_named-in-AddNode.ensures)

pub returns-in-RemoveNode-clause-written : goal.returns-in-RemoveNode-clause-written
returns-in-RemoveNode-clause-written g c =
    rw c.in-RemoveNode.is (rw c.to_be_bytes-number.ensures at c.write_named-in-RemoveNode.ensures)

pub returns-in-VerifyGraph-clause-written : goal.returns-in-VerifyGraph-clause-written
returns-in-VerifyGraph-clause-written g c =
    rw c.in-VerifyGraph.is c.write_name-in-VerifyGraph.ensures

pub returns-in-ProcessGraph-clause-written : goal.returns-in-ProcessGraph-clause-written
returns-in-ProcessGraph-clause-written g c =
    rw c.in-ProcessGraph.is c.write_name-in-ProcessGraph.ensures

pub returns-in-Immediate-clause-written : goal.returns-in-Immediate-clause-written
returns-in-Immediate-clause-written g c =
    rw c.in-Immediate.is
    (rw (c.number-in-Immediate.ensures, c.node_bytes-body.ensures) at
    c.write_short-in-Immediate.ensures)

pub returns-in-CreateDelay-clause-written : goal.returns-in-CreateDelay-clause-written
returns-in-CreateDelay-clause-written g c = rw c.in-CreateDelay.is c.write_create_delay.ensures

pub returns-in-RegisterAutoAging-clause-written : goal.returns-in-RegisterAutoAging-clause-written
returns-in-RegisterAutoAging-clause-written g c =
    rw c.in-RegisterAutoAging.is
    (rw c.to_be_bytes-delay.ensures at c.write_named-in-RegisterAutoAging.ensures)
