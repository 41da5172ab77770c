mod SameNets
