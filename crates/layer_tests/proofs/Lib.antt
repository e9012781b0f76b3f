mod OneLane
